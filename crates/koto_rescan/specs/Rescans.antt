-- What `koto_rescan` returns and writes, from the inner call's answer.
-- Assumes nothing.
use Rattle.std.specs.Prelude.{ℕ, ◌≡◌, List, Err}
use Rattle.reading.specs.declared.ScanError.TheVariants.{Refused}
use Rattle.edit.specs.declared.Edit.{Edit}
use Rattle.rescan.specs.Rescan.{Rescanned, on_all, answer_behind, words_behind, number_of, place_of, count_of, status_of}
use Rattle.rescan.specs.declared.RescanError.TheVariants.{Scan, BadEdit, BadState}

-- the edit of three numbers
abbrev pub edit_of : ℕ → ℕ → ℕ → Edit
edit_of place removed put-in = record { place = place; removed = removed; put_in = put-in }

module _ (s from : List ℕ) (old-count : ℕ) (e : Edit) (t table : List ℕ) (edition : ℕ) where
  -- the inner call's answer for a list
  abbrev pub answer_for : List ℕ → Rescanned
  answer_for list =
      on_all s from old-count e t table edition (λ x. Err (Scan (Refused x))) (Err BadEdit) (Err BadState) (answer_behind s from old-count e t table edition list)

  -- what `koto_rescan` ensures, of the list `new` that it leaves of the list `old`; the byte is the current byte, or the refusal's place
  pub record RescanIs (old new : List ℕ) (status count byte r : ℕ) : Type 0 where
    pub number : r ≡ number_of (answer_for old)
    pub status_is : status ≡ status_of (answer_for old)
    pub count_is : count ≡ count_of (answer_for old)
    pub byte_is : byte ≡ place_of (answer_for old)
    pub words : new ≡ on_all s from old-count e t table edition (λ x. old) old old (words_behind s from old-count e t table edition old)
