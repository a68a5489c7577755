-- `pool::copy_in` meets its contract: `Copied` is what the loop keeps. Assumes nothing.
use native.Mathlib.Omega.{arith}
use Rattle.pool.proofs.Loops.{copy_none, copy_one, copy_all}
use Rattle.pool.proofs.copy_in.Goals as goal

pub loop-i-init : goal.loop-i-init
loop-i-init c = copy_none _ _ _

pub loop-i-preserved : goal.loop-i-preserved
loop-i-preserved c = copy_one _ _ _ _ _ c.loop-i.invariant (omega arith) c.requires

pub returns : goal.returns
returns c = copy_all _ _ _ _ _ c.loop-i.invariant (omega arith)
