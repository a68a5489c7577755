-- `property::run_of` meets its contract. The loop's invariant: the run sought is from lo on and before hi; the measure is their distance.
-- Assumes nothing.
use Prim.Native.Nat.{◌-◌}
use Rattle.property.proofs.Halving.{Between}
use Rattle.property.proofs.run_of.Given as goal

abbrev pub invariant-loop-lo : goal.invariant-loop-lo
invariant-loop-lo l = Between l.table l.code l.lo l.hi

abbrev pub decreases-loop-lo : goal.decreases-loop-lo
decreases-loop-lo l = l.hi - l.lo
