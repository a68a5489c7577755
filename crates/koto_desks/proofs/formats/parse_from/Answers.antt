-- `formats::parse_from` meets its contract: a number is one of the two desks, or none. Assumes nothing.
use mathlib.Core.Path.{refl}
use Rattle.std.proofs.Common.{ap, Err}
use Rattle.koto_desks.specs.FormatsLaws.{no_desk, a_desk}
use Rattle.koto_desks.proofs.formats.parse_from.Goals as goal

pub returns-then-desk-ge-DESKS : goal.returns-then-desk-ge-DESKS
returns-then-desk-ge-DESKS c = no_desk c.if-desk-ge-DESKS.true (ap Err c.refuse.ensures) refl refl

pub returns : goal.returns
returns c = a_desk c.if-desk-ge-DESKS.false c.which_of-which.ensures c.parse.ensures
