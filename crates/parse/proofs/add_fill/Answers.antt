-- `parse::add_fill` meets its contract: nothing is added after an addition without room, and else what `add_to_fit` answered. Assumes nothing.
use mathlib.Core.Path.{sym, ◌∙◌}
use Rattle.parse.specs.Call.{pooled}
use Rattle.parse.specs.PlanLaws.{can_in, can_fit, adds_nothing, adds_string}
use Rattle.parse.proofs.add_fill.Goals as goal

pub string_of-requires : goal.string_of-requires
string_of-requires c =
    can_in c.args.format.now (pooled c.args.bytes.now c.args.entries.now c.args.adding) c.args.fill c.requires

pub add_to_fit-added-requires : goal.add_to_fit-added-requires
add_to_fit-added-requires c =
    can_fit c.args.format.now c.args.adding c.args.bytes.now c.args.entries.now c.args.fill c.requires
    (sym c.is_adding.ensures ∙ c.if-is_adding.true)

pub returns-then-is_adding : goal.returns-then-is_adding
returns-then-is_adding c =
    adds_string c.args.format.now c.args.adding c.args.bytes.now c.args.entries.now c.args.fill c.requires
    (sym c.is_adding.ensures ∙ c.if-is_adding.true)
    c.string_of.ensures c.add_to_fit-added.ensures c.after_added.ensures

pub returns : goal.returns
returns c =
    adds_nothing c.args.format.now c.args.adding c.args.bytes.now c.args.entries.now c.args.fill
    (sym c.is_adding.ensures ∙ c.if-is_adding.false)
