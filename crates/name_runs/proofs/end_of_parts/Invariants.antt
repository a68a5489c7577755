-- `name_runs::end_of_parts` meets its contract. The loop's invariant is `Running`, as in `text::run_utf8`: the run from here on reaches as far as the run
-- from the start; and the run of the table that is kept is one. Assumes nothing.
use Prim.Native.Nat.{◌-◌}
use lib.ListN.{length}
use Rattle.text.specs.Tests.{id_continue}
use Rattle.text.proofs.Runs.{Running}
use Rattle.name_runs.specs.Runs.{RunIs}
use Rattle.name_runs.proofs.end_of_parts.Given as goal

abbrev pub invariant-loop-i : goal.invariant-loop-i
invariant-loop-i l = Running id_continue l.source l.table l.initial.reach l.reach l.i × RunIs l.table l.run

abbrev pub decreases-loop-i : goal.decreases-loop-i
decreases-loop-i l = length l.source - l.i
