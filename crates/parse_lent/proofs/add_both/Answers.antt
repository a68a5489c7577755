-- `parse_lent::add_both` meets its contract: one fill after the other. Assumes nothing.
use Rattle.std.proofs.Common.{sym, ap, subst, ◌∙◌}
use Rattle.format.specs.Parse.{add_fill, add_part}
use Rattle.pool_lent.specs.Entries.{numbers_of}
use Rattle.parse.specs.Call.{Pool, pooled, add_to}
use Rattle.parse.specs.Plan.{CanAdd}
use Rattle.parse.specs.PlanLaws.{can_second}
use Rattle.parse_lent.proofs.add_both.Goals as goal

pub add_fill-requires : goal.add_fill-requires
add_fill-requires c =
    let plan = c.args.plan in
    let format = c.args.format.now in
    subst (λ (p : Pool). CanAdd format p plan.second) (sym c.add_fill-one.ensures)
    (can_second format (pooled c.args.bytes.now (numbers_of c.args.entries.now) plan.none) plan.first plan.second c.requires.first
    c.requires.second)

pub returns : goal.returns
returns c =
    c.add_fill.ensures
    ∙ ap (λ (p : Pool). add_fill (add_part c.args.format.now add_to) p c.args.plan.second) c.add_fill-one.ensures
