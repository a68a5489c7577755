-- `text::run_utf8` meets its contract. The loop's invariant is `Running`: the run from here on reaches as far as the run from the start.
-- Assumes nothing.
use Prim.Native.Nat.{◌-◌}
use lib.ListN.{length}
use Rattle.text.proofs.Runs.{Running}
use Rattle.text.proofs.run_utf8.Given as goal

abbrev pub invariant-loop-i : goal.invariant-loop-i
invariant-loop-i g l = Running g.T.CharTest.test l.source l.table l.initial.reach l.reach l.i

abbrev pub decreases-loop-i : goal.decreases-loop-i
decreases-loop-i g l = length l.source - l.i
