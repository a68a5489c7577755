-- Laws of what a character means.
--     sign_low, digit_is       the signs and the digits are characters of one byte; which numbers the digits are
-- Assumes nothing.
use Rattle.std.specs.Prelude.{ℕ, ◌≤◌, ◌<◌, ◌≡◌, refl, Bool, true, false, ◌||◌, eqb}
use Rattle.std.proofs.Common.{arith, eqb-true}
use Rattle.base.specs.RangeLaws.{inside_is}
use Rattle.format_options.specs.Letters.{less, caret, greater, zero_digit, is_sign, is_digit}

or_either : {G : Type 0} (s t : Bool) → (s ≡ true → G) → (t ≡ true → G) → (s || t) ≡ true → G
or_either true t f g e = f refl
or_either false t f g e = g e

pub sign_low : (c : ℕ) → is_sign c ≡ true → c < 128
unfolding is_sign
sign_low c =
    or_either (eqb c less) _ (λ e. let k : c ≡ less = eqb-true c less e in omega arith)
    (or_either (eqb c caret) _ (λ e. let k : c ≡ caret = eqb-true c caret e in omega arith)
    (λ e. let k : c ≡ greater = eqb-true c greater e in omega arith))

pub digit_is : (c : ℕ) → is_digit c ≡ true → (zero_digit ≤ c) × (c ≤ 57)
unfolding is_digit
digit_is c e = inside_is c zero_digit 57 e
