-- Document 01, "The property table": the run rules and code points 0 to 127; "Refusal numbers": refusal 2 with its place.
-- Assumes nothing.
use Rattle.std.specs.Prelude.{ℕ, ◌-◌, ◌<◌, ◌≤◌, ◌≡◌, List, Bool, true, ◌&&◌, ltb, leb, eqb, length, get_or, Result, Ok, Err}
use Rattle.base.specs.Pick.{pick}
use Rattle.base.specs.Refusal as refusal
use Rattle.property.specs.Parts.{properties_of, xid_start, xid_continue, class_of}
use Rattle.property.specs.Table.{properties_at, start_at, Rises}
use Rattle.fitness.specs.Small.{small_table}
use Rattle.fitness.specs.First.{first_bad}
use Rattle.fitness.specs.declared.TableError.{TableError}
use Rattle.fitness.specs.declared.TableError.TheVariants.{BadTable}

-- a row of 1 to 8,000 numbers
abbrev pub count_most : ℕ
count_most = 8000

-- starts rise to at most 1,114,111
abbrev pub start_most : ℕ
start_most = 1114111

-- code points 0 to 127 are fixed
abbrev pub ascii_count : ℕ
ascii_count = 128

-- ---- the run rules, at the run i

-- the first starts at 0, starts rise strictly
unfoldable pub start_ok : List ℕ → ℕ → Bool
start_ok table i = pick (eqb i 0) (eqb (start_at table i) 0) (ltb (start_at table (i - 1)) (start_at table i))

-- no class 14 or 15, no XID_Start without XID_Continue
unfoldable pub properties_ok : ℕ → Bool
properties_ok properties = leb (class_of properties) 13 && pick (xid_start properties) (xid_continue properties) true

-- the run rules
unfoldable pub run_ok : List ℕ → ℕ → Bool
run_ok table i = start_ok table i && (leb (start_at table i) start_most && properties_ok (properties_of (get_or table i 0)))

-- ---- code points 0 to 127

-- the table gives the code point the small table's properties
abbrev pub ascii_ok : List ℕ → ℕ → Bool
ascii_ok table c = eqb (properties_at table c) (properties_at small_table c)

-- ---- refusal 2

-- a good count
abbrev pub count_ok : ℕ → Bool
count_ok count = leb 1 count && leb count count_most

-- 0 for a bad count; else first bad run, from 0; else, if only 0 to 127 differ, the count
unfoldable pub table_check : List ℕ → Result (Unit {0}) TableError
table_check table =
    let count = length table in
    let run = first_bad (run_ok table) 0 count in
    pick (count_ok count)
    (pick (ltb run count) (Err (BadTable run))
    (pick (ltb (first_bad (ascii_ok table) 0 ascii_count) ascii_count) (Err (BadTable count)) (Ok tt)))
    (Err (BadTable 0))

-- the answer's number
abbrev pub number_of : Result (Unit {0}) TableError → ℕ
number_of (Ok _) = refusal.none
number_of (Err (BadTable place)) = refusal.bad_table

-- its place; 0 where there is none
abbrev pub place_of : Result (Unit {0}) TableError → ℕ
place_of (Ok _) = 0
place_of (Err (BadTable place)) = place

-- ---- a fit table

-- no run is bad
abbrev pub RunsOk : List ℕ → Type 0
RunsOk table = (i : ℕ) → i < length table → run_ok table i ≡ true

-- what holds of a table that is not refused; `FitLaws.fit_by_lem` proves that nothing else is asked
pub record FitTable (table : List ℕ) : Type 0 where
  pub most : length table ≤ count_most
  pub rises : Rises table
  pub runs : RunsOk table
  pub ascii : (c : ℕ) → c < ascii_count → properties_at table c ≡ properties_at small_table c
