-- `utf8::all_single` meets its contract. The loop's invariant: what was found of the bytes before the index. Assumes nothing.
use native.Mathlib.Omega.{arith}
use mathlib.Core.Path.{◌≡◌, refl, ap, ◌∙◌}
use lib.ListN.{length}
use Rattle.base.specs.All.{all_good}
use Rattle.base.specs.AllLaws.{one_more_lem}
use Rattle.utf8.specs.Lengths.{is_single}
use Rattle.utf8.proofs.all_single.Goals as goal

pub loop-b-init : goal.loop-b-init
unfolding all_good
loop-b-init c = refl

pub loop-b-preserved : goal.loop-b-preserved
loop-b-preserved c =
    rw (c.lead_len.ensures, one_more_lem (is_single _) c.loop-b.b-index, c.loop-b.invariant)

pub returns : goal.returns
returns c =
    let s = c.args.s.now in
    let whole : c.loop-b.b-index ≡ length s = omega arith in
    c.loop-b.invariant ∙ ap (all_good (is_single s)) whole
