-- `marks::mark` meets its contract: what the marks from i on do to the row is what all of them do to the row as it was. Assumes nothing.
use mathlib.Core.Path.{refl, sym, ◌∙◌}
use native.Mathlib.Omega.{arith}
use lib.ListN.{length-set}
use Rattle.marks.specs.MarksLaws.{given_at_lem, mark_on, marked_none}
use Rattle.marks.proofs.mark.Goals as goal

pub loop-m-init : goal.loop-m-init
loop-m-init c = (refl, refl)

pub bounds-moved-m : goal.bounds-moved-m
bounds-moved-m c =
    let p = c.requires in
    omega (arith, c.loop-m.invariant.0, p.0, given_at_lem c.args.marks.now c.args.n c.loop-m.m-index p.1 (omega arith))

pub loop-m-preserved : goal.loop-m-preserved
loop-m-preserved c =
    (simp length-set c.loop-m.invariant.0, mark_on _ _ c.loop-m.m-index (omega arith) ∙ c.loop-m.invariant.1)

pub shape_of-moved : goal.shape_of-moved
shape_of-moved c = c.loop-m.invariant.0

pub returns : goal.returns
returns c =
    sym (marked_none _ _ c.loop-m.m-index (omega arith)) ∙ c.loop-m.invariant.1
