-- What the code that reads a table file leans on.
--     lacks, differs, agrees     a byte of the mark, from what the code compares
--     Filled                     what the loop that fills a row keeps. `nothing_filled`, `one_more`, `all_filled`: start, a turn, the end
--     filled_start               the numbers, in a row that was filled
--     too_many                   a count that needs no reading
--     settled                    a return of `read_table`: its answer, and its row
-- Assumes nothing.
use Rattle.std.specs.Prelude.{Result, Err}
use Prim.Native.Nat.{ℕ, ◌+◌, ◌*◌, ◌<◌, ◌≤◌}
use native.Mathlib.Omega.{arith}
use native.Mathlib.Nat.{zero-add}
use native.Mathlib.Numerals.{add-one}
use mathlib.Core.Path.{◌≡◌, refl, sym, ◌∙◌}
use mathlib.Core.List.{List, ◌++◌}
use mathlib.Core.Bool.{true, false}
use lib.ListN.{length, get_or, set, take, drop, length-set}
use lib.Seq.{paste, paste-zero, paste-suc, take_all, take_at}
use borrow.Author.Tests.{le-leb, lt-leb}
use Rattle.base.specs.CasesLaws.{cases}
use Rattle.table_file.specs.File.{mark, mark_ok, number32, numbers_in, read_table, row_after, ReadTableIs}
use Rattle.table_file.specs.FileLaws.{length_numbers, number_at, later}
use Rattle.fitness.specs.Fit.{table_check}
use Rattle.fitness.specs.FitLaws.{bad_count}
use Rattle.fitness.specs.declared.TableError.TheVariants as table
use Rattle.table_file.specs.declared.TableFileError.{TableFileError}

-- ---- the mark

pub lacks : (file : List ℕ) (i : ℕ) → length file ≤ i → mark_ok file i ≡ false
unfolding mark_ok
lacks file i h = search cases

module _ (file bytes : List ℕ) (i : ℕ) (e : bytes ≡ mark) (h : i < length file) where
  pub differs : (get_or file i 0 ≡ get_or bytes i 0 → ⊥) → mark_ok file i ≡ false
  unfolding mark_ok
  differs d = rw (← e) (search cases)

  pub agrees : get_or file i 0 ≡ get_or bytes i 0 → mark_ok file i ≡ true
  unfolding mark_ok
  agrees d = rw (← e) (search cases)

-- ---- the numbers

-- the first i numbers of the file stand in the row, and the rest of it is as it was
pub record Filled (file : List ℕ) (count : ℕ) (old row : List ℕ) (i : ℕ) : Type 0 where
  pub within : i ≤ count
  pub long : length row ≡ length old
  pub holds : row ≡ paste old 0 (numbers_in count (drop 8 file)) i

module _ (file : List ℕ) (count : ℕ) (old : List ℕ) where
  pub nothing_filled : Filled file count old old 0
  nothing_filled = record { within = omega arith; long = refl; holds = paste-zero old 0 (numbers_in count (drop 8 file)) }

  module _ (row : List ℕ) (i : ℕ) where
    pub one_more_lem : (number : ℕ) → Filled file count old row i → i < count → count ≤ length old → number ≡ number32 file (8 + 4 * i)
        → Filled file count old (set row i number) (i + 1)
    one_more_lem number f h room e =
        let numbers = numbers_in count (drop 8 file) in
        let is : number ≡ get_or numbers i 0 = e ∙ sym (number_at count (drop 8 file) i h ∙ later 8 file (4 * i)) in
        let turn = paste-suc old 0 numbers i 0 (omega arith) (rw (length_numbers count (drop 8 file)) h) in
        record {
          within = omega arith;
          long = length-set row i number ∙ f.long;
          holds = rw (f.holds, is, add-one i, zero-add i) (rw (zero-add i) at turn);
        }

    pub all_filled : Filled file count old row i → count ≤ i → row ≡ numbers_in count (drop 8 file) ++ drop count old
    all_filled f h =
        let all : i ≡ count = omega arith in
        let whole = take_all count (numbers_in count (drop 8 file)) (omega (arith, length_numbers count (drop 8 file))) in
        rw (all, zero-add count, whole) at f.holds

-- the start of a row that was filled
pub filled_start : (count : ℕ) (bytes row rest : List ℕ) → row ≡ numbers_in count bytes ++ rest → take count row ≡ numbers_in count bytes
filled_start count bytes row rest e = rw e (take_at (numbers_in count bytes) rest count (length_numbers count bytes))

pub too_many : (count : ℕ) (bytes : List ℕ) → 8000 < count → Err (table.BadTable 0) ≡ table_check (numbers_in count bytes)
too_many count bytes h =
    sym (bad_count (numbers_in count bytes) (rw (length_numbers count bytes, le-leb 1 count (omega arith), lt-leb count 8000 h)))

-- ---- a return

pub settled :
    (file old new : List ℕ) (r : Result ℕ TableFileError) → r ≡ read_table file (length old) → new ≡ row_after r file old → ReadTableIs file old new r
settled file old new r e k = record { answer = e; row = rw (sym e) k }
