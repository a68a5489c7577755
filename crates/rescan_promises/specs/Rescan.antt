-- The promise of `rescan::rescan` (document 02, C-7): "Whenever it is the old source's, the result must equal a fresh scan", and "no byte
-- of the edit could alter a kept record". What it ensures for any list is `Rescans`.
-- Assumes nothing.
use Rattle.std.specs.Prelude.{ℕ, suc, ◌<◌, ◌≡◌, true, List, length, take}
use Rattle.base.specs.Refusal.{source_most}
use Rattle.input.specs.Input.{Readable}
use Rattle.rows.specs.Row.{rows_of}
use Rattle.rows.specs.declared.Row.{Row}
use Rattle.reading.specs.Scan.{Scanned, reading_of, Scans, count_of}
use Rattle.kept.specs.Kept.{Edited, KeptTo}
use Rattle.edit.specs.Edit.{Edits, edit_fits, start_of_line}
use Rattle.edit.specs.declared.Edit.{Edit}
use Rattle.keep.specs.Keep.{Keeps}
use Rattle.rescan.specs.Rescan.{Rescanned, as_scan, kept, Rescans}

-- an answer and a list that are those of a scan
pub record Fresh (t table : List ℕ) (edition : ℕ) (list : List ℕ) (x : Rescanned) (new : List ℕ) : Type 0 where
  pub answer : Scanned
  pub told : x ≡ as_scan answer
  pub scans : Scans t table edition list answer new

-- s is a source, and a scan with this table and edition, refused by 4 or 5 or not, has answered r and left the list `from`; e leads from s
-- to t
pub record RescanPromise (s from : List ℕ) (r : Scanned) (e : Edit) (t table : List ℕ) (edition : ℕ) : Type 0 where
  -- a rescan answers and leaves, word for word, what a scan of the new source does
  pub is_fresh : (list : List ℕ) (x : Rescanned) (new : List ℕ) → Rescans s from (count_of r) e t table edition list x new
      → Fresh t table edition list x new
  -- the records that it keeps are the first of both readings, whatever the edit puts in
  pub unaltered : Readable source_most t table edition
      → let k = kept s from (count_of r) e t table edition in
      (take k (reading_of s table edition).rows ≡ rows_of k from) × (take k (reading_of t table edition).rows ≡ rows_of k from)

-- Of any two sources with the same bytes up to a newline, no list asked: if record k of the first is a NewLine of depth 0, and those before
-- it end before the newline's end, then the second has the same records up to it. No rule looks past a newline that it does not take
abbrev pub NoByteAlters : List ℕ → List ℕ → List ℕ → ℕ → Type 0
NoByteAlters s t table edition =
    Readable source_most s table edition → Readable source_most t table edition → (n : ℕ) → Edited s t n → (k : ℕ) (d : Row)
    → k < length (reading_of s table edition).rows → KeptTo (reading_of s table edition).rows n k d
    → take (suc k) (reading_of t table edition).rows ≡ take (suc k) (reading_of s table edition).rows

-- for every list: an edit fits exactly where it leads from the old source to the new one, k + 1 records are kept exactly where document
-- 02's conditions hold of them, and there is one answer
pub record RescanMeans (s from : List ℕ) (count : ℕ) (e : Edit) (t table : List ℕ) (edition : ℕ) : Type 0 where
  pub edits : edit_fits s e t ≡ true → Edits s e t
  pub fits : Edits s e t → edit_fits s e t ≡ true
  pub keeps : (k : ℕ) → kept s from count e t table edition ≡ suc k → Keeps t (start_of_line t e.place) from count k
  pub kept_all : (k : ℕ) → Keeps t (start_of_line t e.place) from count k → kept s from count e t table edition ≡ suc k
  pub one_answer : (list : List ℕ) (r q : Rescanned) (new other : List ℕ) → Rescans s from count e t table edition list r new
      → Rescans s from count e t table edition list q other → (r ≡ q) × (new ≡ other)
