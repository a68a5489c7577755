-- `cluster_count::count_clusters` meets its contract. The loop's invariant: the state is that of the characters passed, and the count with what
-- begins from here on is the answer. Assumes nothing.
use Prim.Native.Nat.{◌-◌}
use lib.ListN.{length}
use Rattle.cluster_count.proofs.Counting.{Counting}
use Rattle.cluster_count.proofs.count_clusters.Given as goal

abbrev pub invariant-loop-i : goal.invariant-loop-i
invariant-loop-i l = Counting l.bytes l.table l.edition l.left l.count l.i

abbrev pub decreases-loop-i : goal.decreases-loop-i
decreases-loop-i l = length l.bytes - l.i
