-- `parse::add_both` meets its contract: one fill after the other. Assumes nothing.
use mathlib.Core.Path.{sym, ap, subst, ◌∙◌}
use Rattle.format.specs.Parse.{add_fill}
use Rattle.format.specs.Parse.{add_part}
use Rattle.parse.specs.Call.{Pool, pooled, add_to}
use Rattle.parse.specs.Plan.{CanAdd}
use Rattle.parse.specs.PlanLaws.{can_second}
use Rattle.parse.proofs.add_both.Goals as goal

pub add_fill-one-requires : goal.add_fill-one-requires
add_fill-one-requires c = c.requires.first

pub add_fill-requires : goal.add_fill-requires
add_fill-requires c =
    let plan = c.args.plan in
    let format = c.args.format.now in
    subst (λ (p : Pool). CanAdd format p plan.second) (sym c.add_fill-one.ensures)
    (can_second format (pooled c.args.bytes.now c.args.entries.now plan.none) plan.first plan.second c.requires.first c.requires.second)

pub returns : goal.returns
returns c =
    c.add_fill.ensures
    ∙ ap (λ (p : Pool). add_fill (add_part c.args.format.now add_to) p c.args.plan.second) c.add_fill-one.ensures
