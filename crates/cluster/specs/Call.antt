-- The public call `first_cluster`: its answer, refusals too, in the documents' order: 1 as a source, 17, 2, 3 or 15. No bytes give length 0.
-- Assumes nothing.
use Rattle.std.specs.Prelude.{ℕ, List, Result, Ok, Err}
use Rattle.base.specs.Refusal.{none, source_most}
use Rattle.utf8.specs.Chars.{chars}
use Rattle.property.specs.Table.{properties_at}
use Rattle.input.specs.Input as input
use Rattle.input.specs.Input.{input_check, on_input}
use Rattle.cluster.specs.First.{first_end}
use Rattle.input.specs.declared.Refusal.{Refusal}

-- the answer for the bytes of a source, the numbers of a table, and an edition
unfoldable pub first_cluster : List ℕ → List ℕ → ℕ → Result ℕ Refusal
first_cluster source table edition =
    on_input Err (input_check source_most source table edition) (Ok (first_end (properties_at table) edition 0 (chars source)))

-- ---- the documents' numbers of an answer

abbrev pub number_of : Result ℕ Refusal → ℕ
number_of (Ok n) = none
number_of (Err x) = input.number_of x

-- the refusal's place; 0 where there is none
abbrev pub place_of : Result ℕ Refusal → ℕ
place_of (Ok n) = 0
place_of (Err x) = input.place_of x

-- the length in bytes; 0 on a refusal
abbrev pub len_of : Result ℕ Refusal → ℕ
len_of (Ok n) = n
len_of (Err x) = 0
