-- `skip::count` meets its contract. The loop's invariant is the contract, of the k bytes that were looked at. Assumes nothing.
use Prim.Native.Nat.{◌-◌, ◌≤◌}
use Rattle.skip.specs.Skip.{Counts}
use Rattle.skip.proofs.count.Given as goal

abbrev pub invariant-loop-k : goal.invariant-loop-k
invariant-loop-k g l = (l.k ≤ l.block) × Counts (g.T.Stays.test l.what) l.source l.at l.block l.k l.n

abbrev pub decreases-loop-k : goal.decreases-loop-k
decreases-loop-k g l = l.block - l.k
