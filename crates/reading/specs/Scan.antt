-- What a scan answers and writes, from the reading and the list's room (document 01, "Records" and "Refusal numbers"; document 02, C-3, C-5 and
-- C-8): refusals 1, 17, 2, 3 or 15 in this order, which write nothing; then the records, as many as have room, and the status, or refusal 4
-- or 5, which leave the records before them. It is said of a list in either layout (`FillsIn`, `ReadsOnIn`, `ScansIn`); without a layout, of a list
-- with whole records.
-- Assumes nothing.
use Rattle.std.specs.Prelude.{ℕ, ◌+◌, ◌-◌, ◌≡◌, Bool, true, false, List, [], ◌∷◌, Result, Ok, Err, ltb, length, take}
use Rattle.base.specs.Pick.{pick}
use Rattle.base.specs.Refusal.{none, list_full, modes_full, source_most}
use Rattle.property.specs.Table.{properties_at}
use Rattle.input.specs.Input as input
use Rattle.input.specs.Input.{input_check, on_input}
use Rattle.rows.specs.Row.{put_rows, put_rows_at}
use Rattle.rows.specs.declared.Row.{Row}
use Rattle.half_rows.specs.Half.{Marked, marked, put_halves, put_halves_at}
use Rattle.layout.specs.Layout.{room_in}
use Rattle.layout.specs.declared.Layout.{Layout}
use Rattle.layout.specs.declared.Layout.TheVariants.{Whole, Half}
use Rattle.state.specs.Lexer.{reach_of}
use Rattle.state.specs.declared.State.{State}
use Rattle.reading.specs.Reading.{Stop, ended, stuck, deep, Reading, read_from, reading}
use Rattle.reading.specs.declared.Scan.{Scan}
use Rattle.reading.specs.declared.Scan.TheVariants.{End, Stuck}
use Rattle.reading.specs.declared.ScanError.{ScanError}
use Rattle.reading.specs.declared.ScanError.TheVariants.{Refused, ListFull, ModesFull}

-- what a scan answers
abbrev pub Scanned : Type 0
Scanned = Result Scan ScanError

-- ---- an Error that stands still

-- a record stands still that comes before these, where the reading stops so: it is the last, and the reading is stuck
abbrev pub stands_still : Stop → List Row → Bool
stands_still stuck [] = true
stands_still stuck (r ∷ rows) = false
stands_still ended rows = false
stands_still deep rows = false

-- each of some records, with whether it stands still
unfoldable pub mark_all : Stop → List Row → List Marked
mark_all why [] = []
mark_all why (r ∷ rows) = marked r (stands_still why rows) ∷ mark_all why rows

-- those of a reading
abbrev pub marked_rows : Reading → List Marked
marked_rows r = mark_all r.stop r.rows

-- ---- by the room

-- where the last of some records ends; b where there is none
unfoldable pub end_of : ℕ → List Row → ℕ
end_of b [] = b
end_of b (r ∷ rows) = end_of r.end rows

-- the answer where all records have room: n is how many there are then, and b the current byte
abbrev pub whole : ℕ → ℕ → ℕ → Stop → Scanned
whole room n b ended = Ok (End n b)
whole room n b stuck = Ok (Stuck n b)
-- a token is left to read: 4 comes before 5
whole room n b deep = pick (ltb n room) (Err (ModesFull n b)) (Err (ListFull n b))

-- the answer where reading goes on from the byte b into a list that has k records of its room
abbrev pub by_room : ℕ → ℕ → ℕ → Reading → Scanned
by_room room k b r =
    pick (ltb room (k + length r.rows)) (Err (ListFull room (end_of b (take (room - k) r.rows))))
    (whole room (k + length r.rows) (end_of b r.rows) r.stop)

-- a list in which the first n records of a reading are put from record k on; every other word stays
abbrev pub puts_in : Layout → List ℕ → ℕ → ℕ → Reading → List ℕ
puts_in Whole old k n r = put_rows_at old k (take n r.rows)
puts_in Half old k n r = put_halves_at old k (take n (marked_rows r))

-- a reading goes on from the byte b, and its records are written from record k on, as many as have room; every other word stays
pub record FillsIn (layout : Layout) (old : List ℕ) (k b : ℕ) (reading : Reading) (r : Scanned) (new : List ℕ) : Type 0 where
  pub answer : r ≡ by_room (room_in layout old) k b reading
  pub words : new ≡ puts_in layout old k (room_in layout old - k) reading

abbrev pub Fills : List ℕ → ℕ → ℕ → Reading → Scanned → List ℕ → Type 0
Fills = FillsIn Whole

-- what reading on from a state into the list from record k on ensures
abbrev pub ReadsOnIn : Layout → (ℕ → ℕ) → ℕ → List ℕ → State → ℕ → List ℕ → Scanned → List ℕ → Type 0
ReadsOnIn layout look edition s st k old r new = FillsIn layout old k (reach_of st.lexer).byte.0 (read_from look edition s st) r new

abbrev pub ReadsOn : (ℕ → ℕ) → ℕ → List ℕ → State → ℕ → List ℕ → Scanned → List ℕ → Type 0
ReadsOn = ReadsOnIn Whole

-- ---- a scan

-- the reading of a source with a table, in an edition
abbrev pub reading_of : List ℕ → List ℕ → ℕ → Reading
reading_of source table edition = reading (properties_at table) edition source

-- the answer for the bytes of a source, the numbers of a table, an edition, and a list's room
unfoldable pub scanned : List ℕ → List ℕ → ℕ → ℕ → Scanned
scanned source table edition n =
    on_input (λ x. Err (Refused x)) (input_check source_most source table edition) (by_room n 0 0 (reading_of source table edition))

-- the records that are written: none at a refusal that comes before any work, or else those that have room
abbrev pub written_by : {A : Type 0} → Scanned → List A → List A
written_by (Err (Refused x)) rows = []
written_by (Ok s) rows = rows
written_by (Err (ListFull n b)) rows = rows
written_by (Err (ModesFull n b)) rows = rows

unfoldable pub written : List ℕ → List ℕ → ℕ → ℕ → List Row
written source table edition n = written_by (scanned source table edition n) (take n (reading_of source table edition).rows)

-- and with whether they stand still
unfoldable pub written_marked : List ℕ → List ℕ → ℕ → ℕ → List Marked
written_marked source table edition n = written_by (scanned source table edition n) (take n (marked_rows (reading_of source table edition)))

-- a list that starts with the records that are written where n have room; every word after them stays
abbrev pub writes_in : Layout → List ℕ → List ℕ → List ℕ → ℕ → ℕ → List ℕ
writes_in Whole old source table edition n = put_rows old (written source table edition n)
writes_in Half old source table edition n = put_halves old (written_marked source table edition n)

-- a list that starts with the first n records of a reading; every word after them stays
abbrev pub firsts_in : Layout → List ℕ → ℕ → Reading → List ℕ
firsts_in Whole old n r = put_rows old (take n r.rows)
firsts_in Half old n r = put_halves old (take n (marked_rows r))

-- a list that starts with all of them
abbrev pub holds_in : Layout → List ℕ → Reading → List ℕ
holds_in Whole old r = put_rows old r.rows
holds_in Half old r = put_halves old (marked_rows r)

-- what a scan ensures: its answer, and every word of the list, the records and then what was there before
pub record ScansIn (layout : Layout) (source table : List ℕ) (edition : ℕ) (old : List ℕ) (r : Scanned) (new : List ℕ) : Type 0 where
  pub answer : r ≡ scanned source table edition (room_in layout old)
  pub words : new ≡ writes_in layout old source table edition (room_in layout old)

abbrev pub Scans : List ℕ → List ℕ → ℕ → List ℕ → Scanned → List ℕ → Type 0
Scans = ScansIn Whole

-- ---- the documents' numbers of an answer

abbrev pub number_of : Scanned → ℕ
number_of (Ok s) = none
number_of (Err (Refused x)) = input.number_of x
number_of (Err (ListFull n b)) = list_full
number_of (Err (ModesFull n b)) = modes_full

-- the refusal's place; the current byte where there is no refusal
abbrev pub place_of : Scanned → ℕ
place_of (Ok (End n b)) = b
place_of (Ok (Stuck n b)) = b
place_of (Err (Refused x)) = input.place_of x
place_of (Err (ListFull n b)) = b
place_of (Err (ModesFull n b)) = b

-- how many records were written
abbrev pub count_of : Scanned → ℕ
count_of (Ok (End n b)) = n
count_of (Ok (Stuck n b)) = n
count_of (Err (Refused x)) = 0
count_of (Err (ListFull n b)) = n
count_of (Err (ModesFull n b)) = n
