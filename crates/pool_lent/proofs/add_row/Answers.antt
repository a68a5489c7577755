-- `pool_lent::add_row` meets its contract: it ends after the addition, or with a refusal. Assumes nothing.
use Rattle.std.proofs.Common.{sym, ◌∙◌}
use Rattle.pool_lent.proofs.Adds.{fine_fit, settled_fine, settled_refused}
use Rattle.pool_lent.proofs.add_row.Goals as goal

pub add_to_fit_row-requires : goal.add_to_fit_row-requires
add_to_fit_row-requires c =
    let a = c.args in
    fine_fit a.string.now a.bytes.now a.entries.now a.counts _ c.is_pool_fit-fit.ensures (sym c.is_fine.ensures ∙ c.if-is_fine.true)

pub returns-then-is_fine : goal.returns-then-is_fine
returns-then-is_fine c =
    let a = c.args in
    settled_fine a.string.now a.bytes.now a.entries.now a.counts _ c.is_pool_fit-fit.ensures (sym c.is_fine.ensures ∙ c.if-is_fine.true)
    c.add_to_fit_row.ensures

pub returns : goal.returns
returns c =
    let a = c.args in
    settled_refused a.string.now a.bytes.now a.entries.now a.counts _ c.is_pool_fit-fit.ensures (sym c.is_fine.ensures ∙ c.if-is_fine.false)
    _ c.refusal_of.ensures
