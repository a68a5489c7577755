-- `format_number::consume_u32` meets its contract: whether the first character is a digit decides. Assumes nothing.
use native.Mathlib.Omega.{arith}
use mathlib.Core.Path.{◌≡◌, sym, ◌∙◌}
use mathlib.Core.Bool.{true}
use Rattle.base.specs.CasesLaws.{chain}
use Rattle.format_options.specs.Letters.{is_digit}
use Rattle.format_number.specs.Number.{consume_u32}
use Rattle.format_options.specs.LettersLaws.{digit_is}
use Rattle.format_number.proofs.consume_u32.Goals as goal
use Rattle.format_number.proofs.consume_u32.Goals.{Then-is_digit}

-- the first character is one
is_one_lem : (c : Then-is_digit) → is_digit c.args.first ≡ true
is_one_lem c = sym c.is_digit.ensures ∙ c.if-is_digit.true

pub overflow_sub-first : goal.overflow_sub-first
overflow_sub-first c = (digit_is _ (is_one_lem c)).0

pub digits_from-requires : goal.digits_from-requires
digits_from-requires c = let p = c.requires in (omega (arith, digit_is _ (is_one_lem c)), p.0, p.1)

pub returns-then-is_digit : goal.returns-then-is_digit
unfolding consume_u32
returns-then-is_digit c = c.digits_from.ensures ∙ sym (search chain)

pub returns : goal.returns
unfolding consume_u32
returns c = sym (search chain)
