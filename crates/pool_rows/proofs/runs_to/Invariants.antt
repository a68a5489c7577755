-- `pool_rows::runs_to` meets its contract: `Running` is what the loop keeps. Each start is the end before it, a number of 32 bits, so that no sum
-- of it and a length passes 8,589,934,590. Assumes nothing.
use Prim.Native.Nat.{◌≤◌}
use Rattle.pool_rows.proofs.Loops.{Running}
use Rattle.pool_rows.proofs.runs_to.Given as goal

abbrev pub invariant-loop-i : goal.invariant-loop-i
invariant-loop-i g l = (l.next ≤ 8589934590) × Running (g.E.Entries.numbers l.entries) l.n l.end l.next l.i
