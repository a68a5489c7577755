-- `numbers::numbers_of` meets its contract: the options are those of the answer. Assumes nothing.
use mathlib.Core.Path.{sym, ap, ◌∙◌}
use Rattle.parse.specs.Numbers.{numbers_of}
use Rattle.parse.proofs.numbers.numbers_of.Goals as goal

pub returns-in-Ok : goal.returns-in-Ok
returns-in-Ok c = c.options_numbers.ensures ∙ ap numbers_of (sym c.in-Ok.is)
