-- `format_arms::letter_of` meets its contract: each return is a case of `letter_of`. Assumes nothing.
use mathlib.Core.Path.{sym, ◌∙◌}
use Rattle.base.specs.CasesLaws.{chain}
use Rattle.format_arms.specs.Arms.{letter_of}
use Rattle.format_arms.proofs.letter_of.Goals as goal

pub returns-then-is_before_end : goal.returns-then-is_before_end
unfolding letter_of
returns-then-is_before_end c = c.representation_of.ensures ∙ sym (search chain depth 12 fits 4000)

pub returns : goal.returns
unfolding letter_of
returns c = sym (search chain depth 12 fits 4000)
