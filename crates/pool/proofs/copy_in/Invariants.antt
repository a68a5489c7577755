-- `pool::copy_in` meets its contract: `Copied` is what the loop keeps. Assumes nothing.
use Rattle.pool.proofs.Loops.{Copied}
use Rattle.pool.proofs.copy_in.Given as goal

abbrev pub invariant-loop-i : goal.invariant-loop-i
invariant-loop-i l = Copied l.string l.initial.bytes l.at l.bytes l.i
