-- `desks::held_by` meets its contract. Assumes nothing.
use native.Mathlib.Omega.{arith}
use mathlib.Core.Path.{◌≡◌, refl}
use Rattle.desks.specs.Desks.{held_by}
use Rattle.desks.specs.HeldLaws.{held_on, held_most, spent_within}
use Rattle.desks.proofs.held_by.Goals as goal

pub loop-i-init : goal.loop-i-init
unfolding held_by
loop-i-init c = refl

pub one_held-held-requires : goal.one_held-held-requires
one_held-held-requires c =
    let es = c.args.entries.now in
    let held = held_most es c.args.owners.now c.args.owner c.loop-i.i in
    rw c.loop-i.invariant (omega (arith, c.requires), omega (arith, c.requires, spent_within es c.args.n c.loop-i.i (omega arith)))

pub loop-i-preserved : goal.loop-i-preserved
loop-i-preserved c =
    held_on _ _ _ _ _ _ c.loop-i.invariant c.one_held-held.ensures

pub returns : goal.returns
returns c =
    let e : c.loop-i.i ≡ c.args.n = omega arith in
    rw e at c.loop-i.invariant
