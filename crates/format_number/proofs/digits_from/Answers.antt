-- `format_number::digits_from` meets its contract. The loop's invariant is `Digits`: what the digits from here on come to is what they came to from
-- the start. Assumes nothing.
use native.Mathlib.Omega.{arith}
use mathlib.Core.Path.{◌≡◌, sym, ◌∙◌}
use mathlib.Core.Bool.{true}
use Rattle.format_options.specs.Letters.{is_digit}
use Rattle.format_options.specs.LettersLaws.{digit_is}
use Rattle.format_number.proofs.Digits.{digits_start, digits_stop, digit_here, digits_large, digits_more}
use Rattle.format_number.proofs.digits_from.Goals as goal
use Rattle.format_number.proofs.digits_from.Goals.{Else-not-is_digit}

is_one_lem : (c : Else-not-is_digit) → is_digit c.peek-next.result ≡ true
is_one_lem c = sym c.is_digit.ensures ∙ c.if-not-is_digit.false

pub loop-at-init : goal.loop-at-init
loop-at-init c = digits_start _ _ _ c.requires.0

pub overflow_add-at : goal.overflow_add-at
overflow_add-at c = omega (arith, c.loop-at.invariant.within, c.requires)

pub overflow_cast-result : goal.overflow_cast-result
overflow_cast-result c = omega (arith, c.loop-at.invariant.small)

pub returns-then-not-is_digit : goal.returns-then-not-is_digit
returns-then-not-is_digit c =
    digits_stop _ _ _ _ _ c.loop-at.invariant (rw (← c.peek-next.ensures) (sym c.is_digit.ensures ∙ c.if-not-is_digit.true))

pub overflow_mul-n : goal.overflow_mul-n
overflow_mul-n c = omega (arith, c.loop-at.invariant.small)

pub overflow_sub-n : goal.overflow_sub-n
overflow_sub-n c = (digit_is _ (is_one_lem c)).0

pub overflow_cast-n-in-loop-at : goal.overflow_cast-n-in-loop-at
overflow_cast-n-in-loop-at c = omega (arith, digit_is _ (is_one_lem c))

pub overflow_add-n : goal.overflow_add-n
overflow_add-n c = omega (arith, c.loop-at.invariant.small, digit_is _ (is_one_lem c))

pub returns-then-n-gt-INDEX_MAX : goal.returns-then-n-gt-INDEX_MAX
returns-then-n-gt-INDEX_MAX c =
    digits_large _ _ _ _ _ c.loop-at.invariant _ c.peek-next.ensures (is_one_lem (goal.at.returns-then-n-gt-INDEX_MAX c).Else-not-is_digit) c.if-n-gt-INDEX_MAX.true

pub overflow_add-digits : goal.overflow_add-digits
overflow_add-digits c = omega (arith, c.loop-at.invariant.within, c.requires)

pub loop-at-smaller : goal.loop-at-smaller
loop-at-smaller c =
    omega (arith, (digit_here _ _ _ _ _ c.loop-at.invariant _ c.peek-next.ensures (is_one_lem (goal.at.loop-at-smaller c).Else-not-is_digit)).inside)

pub loop-at-preserved : goal.loop-at-preserved
loop-at-preserved c =
    digits_more _ _ _ _ _ c.loop-at.invariant _ c.peek-next.ensures (is_one_lem (goal.at.loop-at-preserved c).Else-not-is_digit) c.if-n-gt-INDEX_MAX.false
