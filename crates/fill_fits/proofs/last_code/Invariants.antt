-- `fill_fits::last_code` meets its contract: `Last` is what the loop keeps, and how many bytes are left its measure. Assumes nothing.
use Prim.Native.Nat.{◌-◌}
use lib.ListN.{length}
use Rattle.fill_fits.proofs.Last.{Last}
use Rattle.fill_fits.proofs.last_code.Given as goal

abbrev pub invariant-loop-code : goal.invariant-loop-code
invariant-loop-code l = Last l.fill l.at l.last

abbrev pub decreases-loop-code : goal.decreases-loop-code
decreases-loop-code l = length l.fill - l.at
