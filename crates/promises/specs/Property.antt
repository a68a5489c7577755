-- The promises of `property::check_table` and `property::read_table`, case by case in document 01's order.
-- Assumes nothing.
use Rattle.std.specs.Prelude.{ℕ, ◌<◌, ◌≤◌, ◌≡◌, true, false, List, ◌++◌, length, drop, Result, Ok, Err}
use Rattle.base.specs.Refusal.{none, bad_table, list_full, bad_file}
use Rattle.property.specs.Table.{properties_at}
use Rattle.fitness.specs.Small.{small_table}
use Rattle.fitness.specs.Fit as table
use Rattle.fitness.specs.Fit.{count_ok, run_ok, table_check, RunsOk}
use Rattle.fitness.specs.First.{first_bad}
use Rattle.table_file.specs.File as file
use Rattle.table_file.specs.File.{mark_ok, count_of, numbers_of, end_of, file_of}
use Rattle.fitness.specs.declared.TableError.{TableError}
use Rattle.fitness.specs.declared.TableError.TheVariants.{BadTable}
use Rattle.table_file.specs.declared.TableFileError.{TableFileError}
use Rattle.promises.specs.Said.{Said, says}

-- ---- `check_table`

-- what it ensures of its answer
abbrev pub CheckTableEnsures : List ℕ → Result (Unit {0}) TableError → Type 0
CheckTableEnsures t r = r ≡ table_check t

abbrev pub table_says : Result (Unit {0}) TableError → Said
table_says r = says (table.number_of r) (table.place_of r)

-- the cases shut each other out, and leave nothing out
pub record CheckTablePromise (t : List ℕ) (r : Result (Unit {0}) TableError) : Type 0 where
  pub bad_count : count_ok (length t) ≡ false → table_says r ≡ says bad_table 0
  pub bad_run :
      count_ok (length t) ≡ true → (i : ℕ) → i < length t → ((j : ℕ) → j < i → run_ok t j ≡ true) → run_ok t i ≡ false
      → table_says r ≡ says bad_table i
  pub bad_ascii :
      count_ok (length t) ≡ true → RunsOk t → (c : ℕ) → c < 128 → (properties_at t c ≡ properties_at small_table c → ⊥)
      → table_says r ≡ says bad_table (length t)
  pub fit :
      count_ok (length t) ≡ true → RunsOk t → ((c : ℕ) → c < 128 → properties_at t c ≡ properties_at small_table c) → table_says r ≡ says none 0

-- ---- `read_table`

abbrev pub file_says : Result ℕ TableFileError → Said
file_says r = says (file.number_of r) (file.place_of r)

-- what is right in a file before its numbers are looked at
pub record Framed (f : List ℕ) : Type 0 where
  pub mark : first_bad (mark_ok f) 0 6 ≡ 6
  pub end : length f ≡ end_of f

-- what it ensures is `ReadTableIs`. The place of 14 is the smallest offset that is wrong, or the length where bytes lack
pub record ReadTablePromise (f old new : List ℕ) (r : Result ℕ TableFileError) : Type 0 where
  pub bad_mark_lem : first_bad (mark_ok f) 0 6 < 6 → file_says r ≡ says bad_file (first_bad (mark_ok f) 0 6)
  pub short_head : first_bad (mark_ok f) 0 6 ≡ 6 → length f < 8 → file_says r ≡ says bad_file (length f)
  pub short : first_bad (mark_ok f) 0 6 ≡ 6 → 8 ≤ length f → length f < end_of f → file_says r ≡ says bad_file (length f)
  pub surplus : first_bad (mark_ok f) 0 6 ≡ 6 → end_of f < length f → file_says r ≡ says bad_file (end_of f)
  pub no_room_lem : Framed f → length old < count_of f → file_says r ≡ says list_full 0
  pub unfit : Framed f → count_of f ≤ length old → (i : ℕ) → table_check (numbers_of f) ≡ Err (BadTable i) → file_says r ≡ says bad_table i
  pub read : Framed f → count_of f ≤ length old → table_check (numbers_of f) ≡ Ok tt → r ≡ Ok (count_of f)
  -- no other count is told
  pub counted : file.number_of r ≡ none → r ≡ Ok (count_of f)
  -- the row: its start where the file was read, and not a word on a refusal
  pub written : file.number_of r ≡ none → new ≡ numbers_of f ++ drop (count_of f) old
  pub kept : (file.number_of r ≡ none → ⊥) → new ≡ old
  -- the file of a fit table is read as that table
  pub back : (t : List ℕ) → table_check t ≡ Ok tt → length t ≤ length old → f ≡ file_of t
      → (r ≡ Ok (length t)) × (new ≡ t ++ drop (length t) old)
