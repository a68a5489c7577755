-- `rows::copy::copy_rows` meets its contract: the numbers up to i are those of the first list.
-- Assumes nothing.
use Prim.Native.Nat.{ℕ, ◌*◌, ◌≤◌}
use mathlib.Core.Path.{◌≡◌}
use mathlib.Core.List.{List}
use lib.ListN.{length}
use lib.Seq.{paste}
use Rattle.rows.specs.Row.{row_words}
use Rattle.rows.proofs.copy.copy_rows.Given as goal

-- the first i numbers are copied
pub record Copied (from old : List ℕ) (n : ℕ) (row : List ℕ) (i : ℕ) : Type 0 where
  pub within : i ≤ row_words * n
  pub long : length row ≡ length old
  pub holds : row ≡ paste old 0 from i

abbrev pub invariant-loop-i : goal.invariant-loop-i
invariant-loop-i l = Copied l.from l.initial.to l.n l.to l.i
