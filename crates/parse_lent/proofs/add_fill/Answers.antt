-- `parse_lent::add_fill` meets its contract: nothing is added after an addition without room, and else what `add_to_fit_row` answered.
-- Assumes nothing.
use Rattle.std.proofs.Common.{sym, ◌∙◌}
use Rattle.pool_lent.specs.Entries.{numbers_of}
use Rattle.parse.specs.PlanLaws.{adds_nothing, adds_string}
use Rattle.parse_lent.proofs.add_fill.Goals as goal

pub returns-then-is_adding : goal.returns-then-is_adding
returns-then-is_adding c =
    adds_string c.args.format.now c.args.adding c.args.bytes.now (numbers_of c.args.entries.now) c.args.fill c.requires
    (sym c.is_adding.ensures ∙ c.if-is_adding.true)
    c.string_of-string.ensures c.add_to_fit_row-added.ensures c.after_added.ensures

pub returns : goal.returns
returns c =
    adds_nothing c.args.format.now c.args.adding c.args.bytes.now (numbers_of c.args.entries.now) c.args.fill
    (sym c.is_adding.ensures ∙ c.if-is_adding.false)
