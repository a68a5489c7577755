-- `fitness::all_runs_ok` meets its contract. The loop's invariant is `Quick`: what was found of the runs below i. Assumes nothing.
use native.Mathlib.Omega.{arith}
use Rattle.fitness.specs.QuickLaws.{quick_first, quick_next, quick_done}
use Rattle.fitness.proofs.all_runs_ok.Goals as goal

pub loop-i-init : goal.loop-i-init
loop-i-init c = rw c.follows-ok.ensures (quick_first _ c.requires)

pub loop-i-preserved : goal.loop-i-preserved
loop-i-preserved c = rw c.follows-ok-in-loop-i.ensures (quick_next _ _ _ c.loop-i.invariant (omega arith))

pub returns : goal.returns
returns c =
    rw c.within.ensures (quick_done _ _ _ c.loop-i.invariant (omega arith))
