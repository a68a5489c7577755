-- `pool_rows::is_same` meets its contract: what is left from i on is the same exactly where the whole is. Assumes nothing.
use mathlib.Core.Path.{◌≡◌}
use lib.ListN.{drop}
use Rattle.pool_rows.specs.Rows.{same}
use Rattle.pool_rows.proofs.is_same.Given as goal

abbrev pub invariant-loop-i : goal.invariant-loop-i
invariant-loop-i l = same (drop l.i l.a) (drop l.i l.b) ≡ same l.a l.b
