-- `fill_fits::chars_fit` meets its contract: by how many characters there are. Assumes nothing.
use mathlib.Core.Path.{sym, subst, ◌∙◌}
use Rattle.utf8.specs.CharsLaws.{Stops}
use Rattle.utf8.proofs.Tags.{stopped}
use Rattle.property.specs.Table.{properties_at}
use Rattle.fill_fits.specs.FitsLaws.{no_chars, one_char, begins}
use Rattle.fill_fits.proofs.chars_fit.Goals as goal

pub returns-in_default : goal.returns-in_default
returns-in_default c =
    let a = c.args in
    sym (no_chars (properties_at a.table.now) a.edition a.fields a.fill.now
    (subst Stops c.read_char.ensures (stopped c.read_char.result c.in_default.not-Ok)))

pub returns-then-next-eq-NO_CHAR : goal.returns-then-next-eq-NO_CHAR
returns-then-next-eq-NO_CHAR c =
    c.one_fits.ensures
    ∙ sym (one_char c.args.fill.now _ _ c.requires.0 (sym c.read_char.ensures ∙ c.in-Ok.is)
    (properties_at c.args.table.now) c.args.edition c.args.fields (sym c.peek-next.ensures ∙ c.if-next-eq-NO_CHAR.true))

pub many_fits-requires : goal.many_fits-requires
many_fits-requires c =
    (begins c.args.fill.now _ _ c.requires.0 (sym c.read_char.ensures ∙ c.in-Ok.is) _ c.peek-next.ensures c.if-next-eq-NO_CHAR.false, c.requires.0, c.requires.1)
