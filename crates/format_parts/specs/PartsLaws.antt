-- Laws of the parts.
--     parts_left, parts_by  they are the sign, the width, the dot, the precision and the letter, one behind the other
--     length_parts          and as long as these are together
-- Assumes nothing.
use Rattle.std.specs.Prelude.{ℕ, ◌+◌, ◌≡◌, refl, List, ◌++◌, length, Option, Some, None}
use Rattle.std.proofs.Common.{arith, ap, ◌∙◌, append_assoc, length-append}
use Rattle.format_options.specs.declared.Alignment.{Alignment}
use Rattle.format_options.specs.declared.Alignment.TheVariants as alignment
use Rattle.format_options.specs.declared.Representation.TheVariants as representation
use Rattle.format_options.specs.declared.Representation.{Representation}
use Rattle.asked.specs.declared.Fields.{Fields}
use Rattle.wanted.specs.Candidate.{sign_part, width_part, precision_part, letter_part}
use Rattle.format_parts.specs.Parts.{parts_of, byte_part, sign_byte, dot_byte, letter_byte}

sign_is : (a : Alignment) → byte_part (sign_byte a) ≡ sign_part a
sign_is alignment.Default = refl
sign_is alignment.Left = refl
sign_is alignment.Center = refl
sign_is alignment.Right = refl

dot_is : (g : Option ℕ) (rest : List ℕ) → byte_part (dot_byte g) ++ (width_part g ++ rest) ≡ precision_part g ++ rest
dot_is (Some n) rest = refl
dot_is None rest = refl

letter_is : (x : Option Representation) → byte_part (letter_byte x) ≡ letter_part x
letter_is (Some representation.Debug) = refl
letter_is (Some representation.HexLower) = refl
letter_is (Some representation.HexUpper) = refl
letter_is (Some representation.Binary) = refl
letter_is (Some representation.Octal) = refl
letter_is (Some representation.ExpLower) = refl
letter_is (Some representation.ExpUpper) = refl
letter_is None = refl

-- five lists, one behind the other
abbrev five : (a b c d e : List ℕ) → List ℕ
five a b c d e = a ++ b ++ c ++ d ++ e

five_right : (a b c d e : List ℕ) → five a b c d e ≡ a ++ (b ++ (c ++ (d ++ e)))
five_right a b c d e =
    append_assoc (a ++ b ++ c) d e
    ∙ append_assoc (a ++ b) c (d ++ e)
    ∙ append_assoc a b (c ++ (d ++ e))

module _ (f : Fields) where
  abbrev sign : List ℕ
  sign = byte_part (sign_byte f.alignment)

  abbrev dot : List ℕ
  dot = byte_part (dot_byte f.precision)

  abbrev letter : List ℕ
  letter = byte_part (letter_byte f.representation)

  pub parts_left : sign ++ width_part f.width ++ dot ++ width_part f.precision ++ letter ≡ parts_of f
  parts_left =
      five_right sign (width_part f.width) dot (width_part f.precision) letter
      ∙ ap (λ (l : List ℕ). sign ++ (width_part f.width ++ l)) (dot_is f.precision letter)
      ∙ ap (λ (l : List ℕ). l ++ (width_part f.width ++ (precision_part f.precision ++ letter))) (sign_is f.alignment)
      ∙ ap (λ (l : List ℕ). sign_part f.alignment ++ (width_part f.width ++ (precision_part f.precision ++ l))) (letter_is f.representation)

  pub length_parts : length sign + length (width_part f.width) + length dot + length (width_part f.precision) + length letter ≡ length (parts_of f)
  length_parts =
      let a = sign in
      let b = width_part f.width in
      let c = dot in
      let d = width_part f.precision in
      omega (
        arith,
        ap length parts_left,
        length-append (a ++ b ++ c ++ d) letter,
        length-append (a ++ b ++ c) d,
        length-append (a ++ b) c,
        length-append a b,
      )

  -- with bytes that are these
  pub parts_by : (s d l : Option ℕ) → s ≡ sign_byte f.alignment → d ≡ dot_byte f.precision → l ≡ letter_byte f.representation
      → byte_part s ++ width_part f.width ++ byte_part d ++ width_part f.precision ++ byte_part l ≡ parts_of f
  parts_by s d l e g h = (λ i. byte_part (e i) ++ width_part f.width ++ byte_part (g i) ++ width_part f.precision ++ byte_part (h i)) ∙ parts_left
