-- Document 02, C-7: what a rescan answers and writes, for any old list: refusals 1, 17, 2, 3 or 15 on the new source, 16, and 8, in this
-- order, which write nothing; then the kept records, copied word for word, as many as have room, and behind them what is read from there,
-- as in a scan. Where no record is kept, that is the whole reading.
-- Assumes nothing.
use Rattle.std.specs.Prelude.{ℕ, ◌-◌, ◌≡◌, List, Result, Ok, Err, ltb, take}
use Rattle.base.specs.Pick.{pick}
use Rattle.base.specs.Refusal.{bad_state, bad_edit, source_most}
use Rattle.property.specs.Table.{properties_at}
use Rattle.input.specs.Input.{input_check, on_input}
use Rattle.input.specs.declared.Refusal.{Refusal}
use Rattle.rows.specs.Row.{room, copy_rows, put_rows_at}
use Rattle.reading.specs.Reading.{Reading, read_from}
use Rattle.reading.specs.Scan as scan
use Rattle.reading.specs.Scan.{Scanned, by_room, Fills}
use Rattle.reading.specs.Status as status
use Rattle.reading.specs.Status.{refused_number}
use Rattle.reading.specs.declared.Scan.{Scan}
use Rattle.reading.specs.declared.ScanError.TheVariants.{Refused}
use Rattle.kept.specs.Kept.{resumed}
use Rattle.edit.specs.Edit.{edit_fits, start_of_line}
use Rattle.edit.specs.declared.Edit.{Edit}
use Rattle.keep.specs.Keep.{row_before, kept_rows}
use Rattle.rescan.specs.declared.RescanError.{RescanError}
use Rattle.rescan.specs.declared.RescanError.TheVariants as error
use Rattle.rescan.specs.declared.RescanError.TheVariants.{BadEdit, BadState}

-- what a rescan answers
abbrev pub Rescanned : Type 0
Rescanned = Result Scan RescanError

-- what a scan of the new source may answer, as it is
abbrev pub as_scan : Scanned → Rescanned
as_scan (Ok s) = Ok s
as_scan (Err e) = Err (error.Scan e)

-- ---- behind the kept records

-- as many of k records as have room in a list
abbrev pub within : List ℕ → ℕ → ℕ
within list k = pick (ltb (room list) k) (room list) k

-- what is read behind the first k records of an old list: from the state that the last of them fixes, or from the start where k is 0
abbrev pub read_behind : (ℕ → ℕ) → ℕ → List ℕ → List ℕ → ℕ → Reading
read_behind look edition t from k = read_from look edition t (resumed (row_before from k))

-- k records of an old list are copied, as many of them as have room, and what is read behind them is written from record k on
abbrev pub ReadsBehind : (ℕ → ℕ) → ℕ → List ℕ → List ℕ → ℕ → List ℕ → Scanned → List ℕ → Type 0
ReadsBehind look edition t from k list r new =
    Fills (copy_rows (within list k) from list) k (row_before from (within list k)).end (read_behind look edition t from k) r new

-- ---- a rescan

-- s is the old source and `from` its list with so many records, t the new source
module _ (s from : List ℕ) (count : ℕ) (e : Edit) (t table : List ℕ) (edition : ℕ) where
  -- how many records are kept
  abbrev pub kept : ℕ
  kept = kept_rows t (start_of_line t e.place) from count

  -- what is read behind them
  abbrev pub rest : Reading
  rest = read_behind (properties_at table) edition t from kept

  -- a where the edit does not fit, b where the old list is shorter than its count, or else r
  abbrev pub on_old : {A : Type 0} → A → A → A → A
  on_old a b r = pick (edit_fits s e t) (pick (ltb (room from) count) b r) a

  -- before that, a refusal on the new source as f carries it
  abbrev pub on_all : {A : Type 0} → (Refusal → A) → A → A → A → A
  on_all f a b r = on_input f (input_check source_most t table edition) (on_old a b r)

  module _ (list : List ℕ) where
    -- the answer where nothing is refused before any work
    abbrev pub answer_behind : Rescanned
    answer_behind = as_scan (by_room (room list) kept (row_before from (within list kept)).end rest)

    -- and the words of the list then
    abbrev pub words_behind : List ℕ
    words_behind = put_rows_at (copy_rows (within list kept) from list) kept (take (room list - kept) rest.rows)

    -- what a rescan ensures, of the list `new` that it leaves of `list`: its answer, and every word
    pub record Rescans (r : Rescanned) (new : List ℕ) : Type 0 where
      pub answer : r ≡ on_all (λ x. Err (error.Scan (Refused x))) (Err BadEdit) (Err BadState) answer_behind
      pub words : new ≡ on_all (λ x. list) list list words_behind

    -- the same, where the new source was not refused
    pub record RescansReadable (r : Rescanned) (new : List ℕ) : Type 0 where
      pub answer : r ≡ on_old (Err BadEdit) (Err BadState) answer_behind
      pub words : new ≡ on_old list list words_behind

-- ---- the documents' numbers of an answer

abbrev pub number_of : Rescanned → ℕ
number_of (Ok s) = scan.number_of (Ok s)
number_of (Err (error.Scan e)) = scan.number_of (Err e)
number_of (Err BadEdit) = bad_edit
number_of (Err BadState) = bad_state

-- the refusal's place; the current byte where there is no refusal
abbrev pub place_of : Rescanned → ℕ
place_of (Ok s) = scan.place_of (Ok s)
place_of (Err (error.Scan e)) = scan.place_of (Err e)
place_of (Err BadEdit) = 0
place_of (Err BadState) = 0

-- how many records were written
abbrev pub count_of : Rescanned → ℕ
count_of (Ok s) = scan.count_of (Ok s)
count_of (Err (error.Scan e)) = scan.count_of (Err e)
count_of (Err BadEdit) = 0
count_of (Err BadState) = 0

-- how it ended
abbrev pub status_of : Rescanned → ℕ
status_of (Ok s) = status.status_of (Ok s)
status_of (Err e) = refused_number
