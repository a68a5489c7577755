-- `utf8::is_two` meets its contract: what `opens` tests is all that a character of two bytes needs. Assumes nothing.
use mathlib.Core.Path.{◌∙◌}
use Rattle.utf8.specs.LengthsLaws.{two_len}
use Rattle.utf8.proofs.is_two.Goals as goal

pub returns : goal.returns
returns c = c.opens.ensures ∙ two_len _ c.requires
