-- Laws of the public call's answer.
--     refused       what a refusal makes of it
--     unrefused     a source that no refusal meets has a first cluster, and the answer is its length
--     no_bytes      no bytes give length 0
--     same_call     fit tables that agree on the code points of the source give the same answer
-- Assumes nothing.
use Rattle.std.specs.Prelude.{ℕ, ◌≡◌, true, List, [], Ok, Err}
use Rattle.base.specs.Refusal.{source_most}
use Rattle.utf8.specs.Encode.{encode_all}
use Rattle.utf8.specs.Chars.{chars, chars_in, check_in}
use Rattle.property.specs.Table.{properties_at}
use Rattle.fitness.specs.Fit.{table_check}
use Rattle.input.specs.Input.{is_edition, input_check, Readable}
use Rattle.input.specs.InputLaws.{is_fine_lem}
use Rattle.input.specs.declared.Refusal.{Refusal}
use Rattle.cluster.specs.First.{first_end}
use Rattle.cluster.specs.FirstLaws.{Agree, same_first}
use Rattle.cluster.specs.Call.{first_cluster}

pub refused : (source table : List ℕ) (edition : ℕ) {x : Refusal} → input_check source_most source table edition ≡ Err x
    → first_cluster source table edition ≡ Err x
unfolding first_cluster
refused source table edition e = rw e

pub unrefused : (source table : List ℕ) (edition : ℕ) → Readable source_most source table edition
    → first_cluster source table edition ≡ Ok (first_end (properties_at table) edition 0 (chars source))
unfolding first_cluster
unrefused source table edition g = rw (is_fine_lem source_most source table edition g)

pub no_bytes : (table : List ℕ) (edition : ℕ) → is_edition edition ≡ true → table_check table ≡ Ok tt → first_cluster [] table edition ≡ Ok 0
unfolding first_cluster input_check check_in chars_in encode_all
no_bytes table edition k e = rw (k, e)

pub same_call : (source t u : List ℕ) (edition : ℕ) → table_check t ≡ Ok tt → table_check u ≡ Ok tt
    → Agree (properties_at t) (properties_at u) (chars source) → first_cluster source t edition ≡ first_cluster source u edition
unfolding first_cluster input_check
same_call source t u edition e f a = rw (e, f, same_first (properties_at t) (properties_at u) edition (chars source) a)
