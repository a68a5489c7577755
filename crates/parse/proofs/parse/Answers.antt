-- `parse::parse` meets its contract: it goes by its plan (`parses_planned`). Assumes nothing.
use Rattle.parse.specs.PlanLaws.{can_plan, parses_planned}
use Rattle.parse.proofs.parse.Goals as goal

pub add_both-two-requires : goal.add_both-two-requires
add_both-two-requires c =
    let start = c in
    can_plan start.args.format.now start.args.table.now start.args.edition start.args.bytes.now start.args.entries.now start.args.counts
    c.is_pool_fit-fit.ensures c.read-input.ensures c.plan_of-plan.ensures

pub returns : goal.returns
returns c =
    let start = c in
    parses_planned start.args.format.now start.args.table.now start.args.edition start.args.bytes.now start.args.entries.now
    start.args.counts c.is_pool_fit-fit.ensures c.read-input.ensures c.plan_of-plan.ensures c.add_both-two.ensures c.end_by.ensures
