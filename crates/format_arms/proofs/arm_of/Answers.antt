-- `format_arms::arm_of` meets its contract: each return is a case of `arm_of`. Assumes nothing.
use mathlib.Core.Path.{sym, ◌∙◌}
use Rattle.base.specs.CasesLaws.{chain}
use Rattle.format_arms.specs.Arms.{arm_of}
use Rattle.format_arms.proofs.arm_of.Goals as goal

pub returns-then-is_fill_sign : goal.returns-then-is_fill_sign
unfolding arm_of
returns-then-is_fill_sign c = sym (search chain depth 12 fits 4000)

pub returns-then-is_align : goal.returns-then-is_align
unfolding arm_of
returns-then-is_align c = sym (search chain depth 12 fits 4000)

pub returns-then-is_zero_fill : goal.returns-then-is_zero_fill
unfolding arm_of
returns-then-is_zero_fill c = sym (search chain depth 12 fits 4000)

pub returns-then-is_width : goal.returns-then-is_width
unfolding arm_of
returns-then-is_width c = sym (search chain depth 12 fits 4000)

pub returns-then-is_precision : goal.returns-then-is_precision
unfolding arm_of
returns-then-is_precision c = sym (search chain depth 12 fits 4000)

pub returns : goal.returns
unfolding arm_of
returns c = c.last_arm.ensures ∙ sym (search chain depth 12 fits 4000)
