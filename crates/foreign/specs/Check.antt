-- Document 02, C-9: another lexer's list, with its count and status, against the reading of a source. Refusals 1, 17, 2, 3 or 15 in this order, then 8
-- where the list is shorter than its count, then 5 where our own reading gets it. Else yes, exactly where the records, the count and the status are
-- those of the reading; or the first record that differs, which is the smaller count where only length or status differ.
-- Assumes nothing.
use Rattle.std.specs.Prelude.{ℕ, ◌+◌, Bool, ◌&&◌, List, [], ◌∷◌, Result, Ok, Err, eqb, ltb, leb, length}
use Rattle.base.specs.Pick.{pick}
use Rattle.base.specs.Refusal.{none, modes_full, bad_state, source_most}
use Rattle.input.specs.Input as input
use Rattle.input.specs.Input.{input_check, on_input}
use Rattle.rows.specs.Row.{room}
use Rattle.held.specs.Held.{is_row}
use Rattle.rows.specs.declared.Row.{Row}
use Rattle.reading.specs.Reading.{Stop, ended, stuck, deep, Reading}
use Rattle.reading.specs.Scan.{end_of, reading_of}
use Rattle.reading.specs.Status.{end_number, stuck_number}
use Rattle.foreign.specs.declared.Comparison.{Comparison}
use Rattle.foreign.specs.declared.Comparison.TheVariants.{Same, Differs}
use Rattle.foreign.specs.declared.CheckError.{CheckError}
use Rattle.foreign.specs.declared.CheckError.TheVariants.{Refused, BadState, ModesFull}

-- ---- records

-- these are the records from record k on: the index of the first that is not the list's, of which `count` records count; the smaller of the two
-- counts, where none is another
unfoldable pub first_apart : List ℕ → ℕ → ℕ → List Row → ℕ
first_apart list count k [] = k
first_apart list count k (r ∷ rows) = pick (ltb k count && is_row list k r) (first_apart list count (k + 1) rows) k

-- the same, told after one record more: `apart` was told after the k records before it, and is below k where one of those is another
abbrev pub apart_after : List ℕ → ℕ → ℕ → ℕ → Row → ℕ
apart_after list count k apart r = pick (ltb apart k) apart (pick (leb count k) apart (pick (is_row list k r) (k + 1) apart))

-- ---- the answer

-- what the check answers
abbrev pub Checked : Type 0
Checked = Result Comparison CheckError

-- count and status are right, and so is every record: there are n, and their status is `right`
abbrev pub is_right : ℕ → ℕ → ℕ → ℕ → ℕ → Bool
is_right count status n apart right = eqb apart n && (eqb count n && eqb status right)

abbrev pub compared : ℕ → ℕ → ℕ → ℕ → ℕ → Comparison
compared count status n apart right = pick (is_right count status n apart right) Same (Differs apart)

-- for a reading of n records that ends at the byte b and stops so: 5 comes before any difference
abbrev pub by_stop : ℕ → ℕ → ℕ → ℕ → ℕ → Stop → Checked
by_stop count status n apart b ended = Ok (compared count status n apart end_number)
by_stop count status n apart b stuck = Ok (compared count status n apart stuck_number)
by_stop count status n apart b deep = Err (ModesFull b)

abbrev pub by_reading : List ℕ → ℕ → ℕ → Reading → Checked
by_reading list count status r =
    by_stop count status (length r.rows) (first_apart list count 0 r.rows) (end_of 0 r.rows) r.stop

-- the answer for the bytes of a source, the numbers of a table, an edition, and a list with its count and its status
unfoldable pub list_checked : List ℕ → List ℕ → ℕ → List ℕ → ℕ → ℕ → Checked
list_checked source table edition list count status =
    on_input (λ x. Err (Refused x)) (input_check source_most source table edition)
    (pick (ltb (room list) count) (Err BadState) (by_reading list count status (reading_of source table edition)))

-- ---- the documents' numbers of an answer

abbrev pub number_of : Checked → ℕ
number_of (Ok c) = none
number_of (Err (Refused x)) = input.number_of x
number_of (Err BadState) = bad_state
number_of (Err (ModesFull b)) = modes_full

-- the refusal's place; 0 where there is no refusal
abbrev pub place_of : Checked → ℕ
place_of (Ok c) = 0
place_of (Err (Refused x)) = input.place_of x
place_of (Err BadState) = 0
place_of (Err (ModesFull b)) = b

-- 1 for a yes, and else 0
abbrev pub same_of : Checked → ℕ
same_of (Ok Same) = 1
same_of (Ok (Differs i)) = 0
same_of (Err e) = 0

-- the index that is named, and 0 where none is
abbrev pub differs_of : Checked → ℕ
differs_of (Ok Same) = 0
differs_of (Ok (Differs i)) = i
differs_of (Err e) = 0
