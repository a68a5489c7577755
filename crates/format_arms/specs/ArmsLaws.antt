-- Laws of `arm_of`.
--     start_is, start_not      a position that is the start, and one that is not
--     ArmIs, arm_is            what each arm of the match says of the characters and the position
-- Assumes nothing.
use Rattle.std.specs.Prelude.{ℕ, ◌<◌, ◌≡◌, refl, true, false, eqb, ltb, Option, Some, None}
use borrow.Author.Tests.{eqb-true, ltb-true}
use Rattle.base.specs.Pick.{pick}
use Rattle.base.specs.PickLaws.{by_test}
use Rattle.base.specs.AllLaws.{and_left, and_right}
use Rattle.format_options.specs.Letters.{no_char, zero_digit, is_sign}
use Rattle.format_options.specs.declared.Representation.{Representation}
use Rattle.format_arms.specs.Arms.{start, is_start, dot, is_fill_sign, is_align, is_zero_fill, is_width, is_precision, letter_of, on_shown, last_arm, arm_of}
use Rattle.format_arms.specs.declared.Position.{Position}
use Rattle.format_arms.specs.declared.Position.TheVariants as positions
use Rattle.format_arms.specs.declared.Arm.{Arm}
use Rattle.format_arms.specs.declared.Arm.TheVariants as arm

pub start_is : (p : Position) → is_start p ≡ true → p ≡ start
start_is positions.Start e = refl
start_is positions.Alignment e = cc
start_is positions.MinWidth e = cc
start_is positions.Precision e = cc
start_is positions.Type e = cc
start_is positions.End e = cc

pub start_not : (p : Position) → (p ≡ start → ⊥) → is_start p ≡ false
start_not positions.Start h = absurd (h refl)
start_not positions.Alignment h = refl
start_not positions.MinWidth h = refl
start_not positions.Precision h = refl
start_not positions.Type h = refl
start_not positions.End h = refl

-- what is known where an arm is taken: a fill is set at the start alone, or is a zero; a precision has a character after its dot
abbrev pub ArmIs : ℕ → ℕ → Position → Arm → Type 0
ArmIs c peek position arm.FillSign = (is_sign peek ≡ true) × (position ≡ start)
ArmIs c peek position arm.Align = Unit {0}
ArmIs c peek position arm.ZeroFill = c ≡ zero_digit
ArmIs c peek position arm.MinWidth = Unit {0}
ArmIs c peek position arm.Precision = peek < no_char
ArmIs c peek position (arm.Represent r) = Unit {0}
ArmIs c peek position arm.FillCluster = position ≡ start
ArmIs c peek position arm.Unexpected = Unit {0}

module _ (c peek : ℕ) (position : Position) where
  last_is : (l : Option Representation) → ArmIs c peek position (on_shown l arm.Represent (pick (is_start position) arm.FillCluster arm.Unexpected))
  last_is (Some r) = tt
  last_is None = by_test (ArmIs c peek position) (is_start position) (λ t. start_is position t) (λ t. tt)

  pub arm_is : ArmIs c peek position (arm_of c peek position)
  unfolding arm_of last_arm
  arm_is =
      let P = ArmIs c peek position in
      by_test P (is_fill_sign peek position) (λ t. (and_left (is_sign peek) _ t, start_is position (and_right (is_sign peek) _ t)))
      (λ _. by_test P (is_align c position) (λ _. tt)
      (λ _. by_test P (is_zero_fill c peek position) (λ t. eqb-true c zero_digit (and_left (eqb c zero_digit) _ t))
      (λ _. by_test P (is_width c position) (λ _. tt)
      (λ _. by_test P (is_precision c peek position)
      (λ t. ltb-true peek no_char (and_left (ltb peek no_char) _ (and_right (eqb c dot) _ t))) (λ _. last_is (letter_of c position))))))
