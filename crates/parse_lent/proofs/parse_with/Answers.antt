-- `parse_lent::parse_with` meets its contract: it goes by its plan (`parses_planned`). Assumes nothing.
use Rattle.pool_lent.specs.Entries.{numbers_of}
use Rattle.parse.specs.PlanLaws.{can_plan, parses_planned}
use Rattle.parse_lent.proofs.parse_with.Goals as goal

pub add_both-two-requires : goal.add_both-two-requires
add_both-two-requires c =
    let a = c.args in
    can_plan a.format.now a.table.now a.terms.edition a.bytes.now (numbers_of a.entries.now) a.terms.counts
    c.requires c.read-input.ensures c.plan_of-plan.ensures

pub returns : goal.returns
returns c =
    let a = c.args in
    parses_planned a.format.now a.table.now a.terms.edition a.bytes.now (numbers_of a.entries.now) a.terms.counts
    c.requires c.read-input.ensures c.plan_of-plan.ensures c.add_both-two.ensures c.end_by.ensures
