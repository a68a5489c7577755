-- `fills::put_fill` meets its contract: `Filled` is what the loop keeps. Assumes nothing.
use Rattle.fills.proofs.Filling.{fill_none, fill_one}
use Rattle.fills.proofs.put_fill.Goals as goal

pub loop-init : goal.loop-init
loop-init c = fill_none _ _ _ _

pub loop-preserved : goal.loop-preserved
loop-preserved c = fill_one _ _ _ _ _ _ _ c.loop.invariant c.requires c.loop-test.true _ c.copy_in.ensures
