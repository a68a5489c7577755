-- Laws of the options that numbers are.
--     fields_width, fields_precision    of four numbers that are some options', two are a width and a precision
--     Small, fields_small               which have 32 bits
--     HasNumbers, has_numbers           the options of four numbers have these numbers
--     OneOf, one_of                     and no other options have
-- Assumes nothing.
use Rattle.std.specs.Prelude.{ℕ, zero, suc, ◌≤◌, ◌≡◌, refl, true, leb, Option, Some, None}
use Rattle.std.proofs.Common.{arith, sym, ap, subst, ◌∙◌, leb-true, le-leb, ne_eqb}
use Rattle.base.specs.PickLaws.{by_eq, split_eq}
use Rattle.base.specs.AllLaws.{and_left, and_right}
use Rattle.fills.specs.Pad.{right, width_most, is_width}
use Rattle.fills.specs.PadLaws.{width_within}
use Rattle.parse.specs.Numbers.{no_number, given_number, shown_number}
use Rattle.format_options.specs.Options.{alignment_number}
use Rattle.format_options.specs.declared.Alignment.{Alignment}
use Rattle.format_options.specs.declared.Alignment.TheVariants as alignment
use Rattle.format_options.specs.declared.Representation.TheVariants as representation
use Rattle.format_options.specs.declared.Representation.{Representation}
use Rattle.asked.specs.Fields.{is_shown_number, are_numbers, are_fields, alignment_of, number_of, shown_of, fields_of}
use Rattle.asked.specs.declared.Fields.{Fields}

-- a number of 32 bits, or none
abbrev pub Small : Option ℕ → Type 0
Small (Some n) = n ≤ width_most
Small None = Unit {0}

-- the numbers that a parse tells of the options f
pub record HasNumbers (alignment width precision representation : ℕ) (f : Fields) : Type 0 where
  pub alignment_is : alignment_number f.alignment ≡ alignment
  pub width_is : given_number f.width ≡ width
  pub precision_is : given_number f.precision ≡ precision
  pub representation_is : shown_number f.representation ≡ representation

-- ---- from numbers to options and back

alignment_back : (n : ℕ) → n ≤ right → alignment_number (alignment_of n) ≡ n
unfolding alignment_of
alignment_back n h =
    by_eq (λ (a : Alignment). alignment_number a ≡ n) n 1 (λ e. sym e)
    (λ x. by_eq (λ (a : Alignment). alignment_number a ≡ n) n 2 (λ e. sym e)
    (λ y. by_eq (λ (a : Alignment). alignment_number a ≡ n) n 3 (λ e. sym e)
    (λ z. split_eq n 0 (λ e. sym e) (λ w. absurd (none n h w x y z)))))
  where
    none : (n : ℕ) → n ≤ right → (n ≡ 0 → ⊥) → (n ≡ 1 → ⊥) → (n ≡ 2 → ⊥) → (n ≡ 3 → ⊥) → ⊥
    none zero h w x y z = w refl
    none (suc zero) h w x y z = x refl
    none (suc (suc zero)) h w x y z = y refl
    none (suc (suc (suc zero))) h w x y z = z refl
    none (suc (suc (suc (suc n)))) h w x y z = omega arith

number_back : (n : ℕ) → given_number (number_of n) ≡ n
unfolding number_of
number_back n = by_eq (λ (g : Option ℕ). given_number g ≡ n) n no_number (λ e. sym e) (λ _. refl)

shown_back : (n : ℕ) → is_shown_number n ≡ true → shown_number (shown_of n) ≡ n
unfolding shown_of is_shown_number
shown_back n t =
    by_eq P n 0 (λ e. sym e)
    (λ a. by_eq P n 1 (λ e. sym e)
    (λ b. by_eq P n 2 (λ e. sym e)
    (λ c. by_eq P n 3 (λ e. sym e)
    (λ d. by_eq P n 4 (λ e. sym e)
    (λ f. by_eq P n 5 (λ e. sym e)
    (λ g. by_eq P n 6 (λ e. sym e)
    (λ h. split_eq n no_number (λ e. sym e)
    (λ i. absurd (none n (leb-true n 6 (rw (ne_eqb n no_number i) at t)) a b c d f g h)))))))))
  where
    P : Option Representation → Type 0
    P x = shown_number x ≡ n

    none : (n : ℕ) → n ≤ 6 → (n ≡ 0 → ⊥) → (n ≡ 1 → ⊥) → (n ≡ 2 → ⊥) → (n ≡ 3 → ⊥) → (n ≡ 4 → ⊥) → (n ≡ 5 → ⊥) → (n ≡ 6 → ⊥) → ⊥
    none zero h a b c d e f g = a refl
    none (suc zero) h a b c d e f g = b refl
    none (suc (suc zero)) h a b c d e f g = c refl
    none (suc (suc (suc zero))) h a b c d e f g = d refl
    none (suc (suc (suc (suc zero)))) h a b c d e f g = e refl
    none (suc (suc (suc (suc (suc zero))))) h a b c d e f g = f refl
    none (suc (suc (suc (suc (suc (suc zero)))))) h a b c d e f g = g refl
    none (suc (suc (suc (suc (suc (suc (suc n))))))) h a b c d e f g = omega arith

number_small : (n : ℕ) → is_width n ≡ true → Small (number_of n)
unfolding number_of
number_small n t = by_eq Small n no_number (λ _. tt) (λ e. width_within n t e)

module _ (alignment width precision representation : ℕ) (t : are_fields alignment width precision representation ≡ true) where
  pub fields_width : is_width width ≡ true
  unfolding are_fields are_numbers
  fields_width = and_left (is_width width) _ (and_left (are_numbers width precision) _ (and_right (leb alignment right) _ t))

  pub fields_precision : is_width precision ≡ true
  unfolding are_fields are_numbers
  fields_precision = and_right (is_width width) _ (and_left (are_numbers width precision) _ (and_right (leb alignment right) _ t))

  pub fields_small : Small (number_of width) × Small (number_of precision)
  fields_small = (number_small width fields_width, number_small precision fields_precision)

  pub has_numbers : HasNumbers alignment width precision representation (fields_of alignment width precision representation)
  unfolding are_fields
  has_numbers =
      record {
        alignment_is = alignment_back alignment (leb-true alignment right (and_left (leb alignment right) _ t));
        width_is = number_back width;
        precision_is = number_back precision;
        representation_is =
            shown_back representation (and_right (are_numbers width precision) _ (and_right (leb alignment right) _ t));
      }

-- ---- from options to numbers and back

alignment_of_lem : (a : Alignment) → alignment_of (alignment_number a) ≡ a
unfolding alignment_of
alignment_of_lem alignment.Default = refl
alignment_of_lem alignment.Left = refl
alignment_of_lem alignment.Center = refl
alignment_of_lem alignment.Right = refl

alignment_low : (a : Alignment) → leb (alignment_number a) right ≡ true
alignment_low alignment.Default = refl
alignment_low alignment.Left = refl
alignment_low alignment.Center = refl
alignment_low alignment.Right = refl

number_of_lem : (g : Option ℕ) → Small g → number_of (given_number g) ≡ g
unfolding number_of
number_of_lem (Some n) h = rw (ne_eqb n no_number (λ e. omega arith))
number_of_lem None h = refl

number_is : (g : Option ℕ) → Small g → is_width (given_number g) ≡ true
unfolding is_width
number_is (Some n) h = rw (ne_eqb n no_number (λ e. omega arith), le-leb n width_most h)
number_is None h = refl

shown_of_lem : (x : Option Representation) → shown_of (shown_number x) ≡ x
unfolding shown_of
shown_of_lem (Some representation.Debug) = refl
shown_of_lem (Some representation.HexLower) = refl
shown_of_lem (Some representation.HexUpper) = refl
shown_of_lem (Some representation.Binary) = refl
shown_of_lem (Some representation.Octal) = refl
shown_of_lem (Some representation.ExpLower) = refl
shown_of_lem (Some representation.ExpUpper) = refl
shown_of_lem None = refl

shown_is : (x : Option Representation) → is_shown_number (shown_number x) ≡ true
unfolding is_shown_number
shown_is (Some representation.Debug) = refl
shown_is (Some representation.HexLower) = refl
shown_is (Some representation.HexUpper) = refl
shown_is (Some representation.Binary) = refl
shown_is (Some representation.Octal) = refl
shown_is (Some representation.ExpLower) = refl
shown_is (Some representation.ExpUpper) = refl
shown_is None = refl

-- four numbers are some options', and f are those
pub record OneOf (alignment width precision representation : ℕ) (f : Fields) : Type 0 where
  pub are : are_fields alignment width precision representation ≡ true
  pub only : fields_of alignment width precision representation ≡ f

pub one_of : (alignment width precision representation : ℕ) (f : Fields) → Small f.width → Small f.precision
    → HasNumbers alignment width precision representation f → OneOf alignment width precision representation f
unfolding are_fields are_numbers
one_of alignment width precision representation f sw sp h =
    let a : leb alignment right ≡ true = subst (λ (n : ℕ). leb n right ≡ true) h.alignment_is (alignment_low f.alignment) in
    let b : is_width width ≡ true = subst (λ (n : ℕ). is_width n ≡ true) h.width_is (number_is f.width sw) in
    let c : is_width precision ≡ true = subst (λ (n : ℕ). is_width n ≡ true) h.precision_is (number_is f.precision sp) in
    let d : is_shown_number representation ≡ true = subst (λ (n : ℕ). is_shown_number n ≡ true) h.representation_is (shown_is f.representation) in
    let p : alignment_of alignment ≡ f.alignment = ap alignment_of (sym h.alignment_is) ∙ alignment_of_lem f.alignment in
    let q : number_of width ≡ f.width = ap number_of (sym h.width_is) ∙ number_of_lem f.width sw in
    let r : number_of precision ≡ f.precision = ap number_of (sym h.precision_is) ∙ number_of_lem f.precision sp in
    let s : shown_of representation ≡ f.representation = ap shown_of (sym h.representation_is) ∙ shown_of_lem f.representation in
    record { are = rw (a, b, c, d); only = λ i. record { alignment = p i; width = q i; precision = r i; representation = s i } }
