-- `plain_names::name_end` meets its contract. The loop's invariant: all bytes so far are parts of a name; eight are passed as far as they were
-- counted. Assumes nothing.
use Prim.Native.Nat.{◌-◌}
use lib.ListN.{length}
use Rattle.fitness.specs.Ascii.{is_name_part}
use Rattle.skip.specs.Skip.{Passed}
use Rattle.plain_names.proofs.name_end.Given as goal

abbrev pub invariant-loop-i : goal.invariant-loop-i
invariant-loop-i l = Passed is_name_part l.source l.at l.i

abbrev pub decreases-loop-i : goal.decreases-loop-i
decreases-loop-i l = length l.source - l.i
