-- `edit::line_start` meets its contract: no "\n" stands from `at` to the place, so that the line starts where it does for `at`.
-- Assumes nothing.
use Prim.Native.Nat.{ℕ, ◌≤◌}
use mathlib.Core.Path.{◌≡◌}
use mathlib.Core.List.{List}
use Rattle.edit.specs.Edit.{start_of_line}
use Rattle.edit.proofs.line_start.Given as goal

-- the line of `at` is that of the place
pub record Going (s : List ℕ) (place at : ℕ) : Type 0 where
  pub within : at ≤ place
  pub same : start_of_line s at ≡ start_of_line s place

abbrev pub invariant-loop-at : goal.invariant-loop-at
invariant-loop-at l = Going l.source l.place l.at
