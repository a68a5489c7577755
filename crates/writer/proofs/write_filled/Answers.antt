-- `writer::write_filled` meets its contract: a fill that fits is written, and no other. Assumes nothing.
use mathlib.Core.Path.{sym, ◌∙◌}
use Rattle.property.specs.Table.{properties_at}
use Rattle.writer.specs.CallLaws.{not_one, same_test, fill_fits_lem, fill_unfit}
use Rattle.writer.proofs.write_filled.Goals as goal

pub returns-then-fill_fits : goal.returns-then-fill_fits
returns-then-fill_fits c =
    same_test (fill_fits_lem (properties_at c.args.table.now) c.args.edition c.args.fields c.args.fill.now (sym c.fill_fits.ensures ∙ c.if-fill_fits.true))
    c.put_format.ensures

pub returns : goal.returns
returns c =
    not_one _ _ _ (fill_unfit (properties_at c.args.table.now) c.args.edition c.args.fields c.args.fill.now (sym c.fill_fits.ensures ∙ c.if-fill_fits.false))
