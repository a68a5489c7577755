-- `cluster::cluster_end` meets its contract. The loop's invariant: the state is that of the characters passed, and what the definition
-- answers from here on is what it answers from the start. Assumes nothing.
use Prim.Native.Nat.{◌-◌}
use lib.ListN.{length}
use Rattle.property.specs.Table.{properties_at}
use Rattle.cluster.proofs.Passing.{Past}
use Rattle.cluster.proofs.cluster_end.Given as goal

abbrev pub invariant-loop-i : goal.invariant-loop-i
invariant-loop-i l = Past (properties_at l.table) l.edition l.source l.at l.left l.i

abbrev pub decreases-loop-i : goal.decreases-loop-i
decreases-loop-i l = length l.source - l.i
