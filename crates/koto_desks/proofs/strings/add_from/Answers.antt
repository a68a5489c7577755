-- `strings::add_from` meets its contract: a number is one of the two desks, or none. Assumes nothing.
use mathlib.Core.Path.{refl, ap}
use Rattle.std.specs.Prelude.{Err}
use Rattle.koto_desks.specs.StringsLaws.{no_desk, a_desk}
use Rattle.koto_desks.proofs.strings.add_from.Goals as goal

pub returns-then-desk-ge-DESKS : goal.returns-then-desk-ge-DESKS
returns-then-desk-ge-DESKS c = no_desk c.if-desk-ge-DESKS.true (ap Err c.refusal_of.ensures) refl refl

pub returns : goal.returns
returns c = a_desk c.if-desk-ge-DESKS.false c.which_of-which.ensures c.add_string.ensures
