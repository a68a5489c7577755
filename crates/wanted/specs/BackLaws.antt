-- What is written is read back: the characters after the sign.
--     tail_reads        at MinWidth and at Start, the tail of options is read as them
-- Assumes nothing.
use Rattle.std.specs.Prelude.{ℕ, zero, suc, ◌+◌, ◌≡◌, true, false, ◌&&◌, eqb, take, Option, Some, None, Result, Ok}
use Rattle.std.proofs.Common.{arith, ◌∙◌, lt-ltb, ne_eqb}
use Rattle.std.proofs.Math.Path.{refl, ap}
use mathlib.Core.List.{List, [], ◌∷◌, ◌++◌}
use Rattle.std.proofs.Math.ListN.{length}
use Rattle.std.proofs.Math.Seq.{drop-append_seam}
use Rattle.base.specs.Range.{inside}
use Rattle.utf8.specs.Encode.{encode_all}
use Rattle.format_options.specs.Options.{with_width, with_precision}
use Rattle.format_options.specs.Letters.{no_char, zero_digit, is_sign, is_digit, representation_of}
use Rattle.format_options.specs.LettersLaws.{digit_is}
use Rattle.format_number.specs.declared.Number.{Number}
use Rattle.format_number.specs.Number.{peeked}
use Rattle.format_arms.specs.declared.Position.{Position}
use Rattle.format_arms.specs.Arms.{start, min_width, precision, type, dot, arm_of}
use Rattle.format.specs.Parse.{len_utf8, Goes, on_consumed, body_of, OnePass, parse_from}
use Rattle.format_options.specs.declared.Alignment.{Alignment}
use Rattle.format_options.specs.declared.Representation.{Representation}
use Rattle.format_options.specs.declared.Representation.TheVariants as representation
use Rattle.format_options.specs.declared.Part.{Part}
use Rattle.format_options.specs.declared.Options.{Options}
use Rattle.format_options.specs.declared.FormatError.{FormatError}
use Rattle.format_arms.specs.declared.Arm.TheVariants as arm
use Rattle.decimal.specs.DecimalLaws.{Spelled, spelled, number_read}
use Rattle.asked.specs.FieldsLaws.{Small}
use Rattle.wanted.specs.Candidate.{letter, letter_part, precision_part, tail_for}
use Rattle.wanted.specs.TailLaws.{and_no, turn, arm_type, arm_precision, arm_width, arm_start}

-- ---- the letters

record Letter (c : ℕ) (x : Representation) : Type 0 where
  shown : representation_of c ≡ Some x
  sign : is_sign c ≡ false
  digit : is_digit c ≡ false
  dot : eqb c dot ≡ false
  zero_is : eqb c zero_digit ≡ false

letter_is : (x : Representation) → Letter (letter x) x
unfolding representation_of is_sign inside is_digit
letter_is representation.Debug = record { shown = refl; sign = refl; digit = refl; dot = refl; zero_is = refl }
letter_is representation.HexLower = record { shown = refl; sign = refl; digit = refl; dot = refl; zero_is = refl }
letter_is representation.HexUpper = record { shown = refl; sign = refl; digit = refl; dot = refl; zero_is = refl }
letter_is representation.Binary = record { shown = refl; sign = refl; digit = refl; dot = refl; zero_is = refl }
letter_is representation.Octal = record { shown = refl; sign = refl; digit = refl; dot = refl; zero_is = refl }
letter_is representation.ExpLower = record { shown = refl; sign = refl; digit = refl; dot = refl; zero_is = refl }
letter_is representation.ExpUpper = record { shown = refl; sign = refl; digit = refl; dot = refl; zero_is = refl }

-- ---- the arms of what is written after the sign

-- where a letter is taken; where a dot is too; where a width is
pub record Letters (p : Position) : Type 0 where
  pub letter_arm : (x : Representation) → arm_of (letter x) (peeked []) p ≡ arm.Represent x

pub record Dots (p : Position) : Type 0 where
  pub letters : Letters p
  pub dot_arm : (d : ℕ) (ds : List ℕ) → is_digit d ≡ true → arm_of dot (peeked (d ∷ ds)) p ≡ arm.Precision

pub record Widths (p : Position) : Type 0 where
  pub dots : Dots p
  pub digit_arm : (c peek : ℕ) → is_digit c ≡ true → is_sign peek ≡ false → (eqb c zero_digit && is_digit peek) ≡ false → arm_of c peek p ≡ arm.MinWidth

pub digit_sign : (c : ℕ) → is_digit c ≡ true → is_sign c ≡ false
unfolding is_sign
digit_sign c e =
    let b = digit_is c e in
    rw (ne_eqb c 60 (λ q. omega arith), ne_eqb c 94 (λ q. omega arith), ne_eqb c 62 (λ q. omega arith))

type_letters : Letters type
type_letters = record { letter_arm = λ x. arm_type (letter x) (peeked []) ∙ rw (letter_is x).shown }

precision_dots : Dots precision
unfolding peeked
precision_dots =
    record {
      letters = record { letter_arm = λ x. arm_precision (letter x) (peeked []) ∙ rw ((letter_is x).dot, (letter_is x).shown) };
      dot_arm = λ d ds e. let b = digit_is d e in arm_precision dot d ∙ rw (lt-ltb d no_char (omega arith));
    }

pub width_widths : Widths min_width
unfolding peeked inside is_digit
width_widths =
    record {
      dots =
          record {
            letters =
                record {
                  letter_arm = λ x. arm_width (letter x) (peeked []) ∙ rw ((letter_is x).zero_is, (letter_is x).digit, (letter_is x).dot, (letter_is x).shown);
                };
            dot_arm = λ d ds e. let b = digit_is d e in arm_width dot d ∙ rw (lt-ltb d no_char (omega arith));
          };
      digit_arm = λ c peek d s z. arm_width c peek ∙ rw (z, d);
    }

pub start_widths : Widths start
unfolding peeked inside is_digit is_sign
start_widths =
    record {
      dots =
          record {
            letters =
                record {
                  letter_arm = λ x.
                      arm_start (letter x) (peeked [])
                      ∙ rw ((letter_is x).sign, (letter_is x).zero_is, (letter_is x).digit, (letter_is x).dot, (letter_is x).shown);
                };
            dot_arm = λ d ds e. let b = digit_is d e in arm_start dot d ∙ rw (digit_sign d e, lt-ltb d no_char (omega arith));
          };
      digit_arm = λ c peek d s z. arm_start c peek ∙ rw (s, digit_sign c d, z, d);
    }

-- ---- what follows a number is no digit and no sign

pub record Stop (c : ℕ) : Type 0 where
  pub no_digit : is_digit c ≡ false
  pub no_sign : is_sign c ≡ false

stop_letter : (x : Option Representation) → Stop (peeked (letter_part x))
unfolding peeked inside is_digit is_sign
stop_letter (Some x) = record { no_digit = (letter_is x).digit; no_sign = (letter_is x).sign }
stop_letter None = record { no_digit = refl; no_sign = refl }

pub stop_dot : (g : Option ℕ) (x : Option Representation) → Stop (peeked (precision_part g ++ letter_part x))
unfolding peeked inside is_digit is_sign
stop_dot (Some n) x = record { no_digit = refl; no_sign = refl }
stop_dot None x = stop_letter x

-- ---- the tail

abbrev pub options_of : Alignment → Option Part → Option ℕ → Option ℕ → Option Representation → Options
options_of a f w g x = record { alignment = a; width = w; precision = g; representation = x; fill = f }

module _ {P : Type 0} (add : P → Part → P) (look : ℕ → ℕ) (edition : ℕ) (a : Alignment) (f : Option Part) (pool : P) where
  abbrev pub done : Options → OnePass P
  done o = record { options = o; outcome = Ok tt; pool = pool }

  letters_read : (at : ℕ) (p : Position) → Letters p → (w g : Option ℕ) (x : Option Representation)
      → parse_from add look edition 0 at p (options_of a f w g None) pool (letter_part x) ≡ done (options_of a f w g x)
  unfolding parse_from
  letters_read at p l w g (Some x) = turn add look edition at p (options_of a f w g None) pool (letter x) [] (l.letter_arm x) refl
  letters_read at p l w g None = refl

  dots_read : (at : ℕ) (p : Position) → Dots p → (w g : Option ℕ) (x : Option Representation) → Small g
      → parse_from add look edition 0 at p (options_of a f w None None) pool (precision_part g ++ letter_part x) ≡ done (options_of a f w g x)
  unfolding peeked
  dots_read at p l w None x s = letters_read at p l.letters w None x
  dots_read at p l w (Some n) x s =
      let o = options_of a f w None None in
      let v = spelled n n (omega arith) s in
      let i = at + len_utf8 dot + length (encode_all (take (suc (length v.more)) (v.first ∷ v.more ++ letter_part x))) in
      let b : body_of look edition at o dot (v.first ∷ v.more ++ letter_part x) arm.Precision ≡ Goes (with_precision n o) type (suc (length v.more)) None =
      ap (λ (y : Result Number FormatError). on_consumed y (λ n k. Goes (with_precision n o) type (suc k) None)) (number_read n (letter_part x) v (stop_letter x).no_digit) in
      ap (λ (l : List ℕ). parse_from add look edition 0 at p o pool (dot ∷ l ++ letter_part x)) v.is
      ∙ turn add look edition at p o pool dot (v.first ∷ v.more ++ letter_part x) (l.dot_arm v.first (v.more ++ letter_part x) v.digit) b
      ∙ ap (λ (l : List ℕ). parse_from add look edition 0 i type (with_precision n o) pool l) (drop-append_seam v.more (letter_part x))
      ∙ letters_read i type type_letters w (Some n) x

  pub tail_reads : (at : ℕ) (p : Position) → Widths p → (w g : Option ℕ) (x : Option Representation) → Small w → Small g
      → parse_from add look edition 0 at p (options_of a f None None None) pool (tail_for w g x) ≡ done (options_of a f w g x)
  tail_reads at p l None g x s t = dots_read at p l.dots None g x t
  tail_reads at p l (Some n) g x s t =
      let o = options_of a f None None None in
      let v = spelled n n (omega arith) s in
      let rest = precision_part g ++ letter_part x in
      let i = at + len_utf8 v.first + length (encode_all (take (length v.more) (v.more ++ rest))) in
      let stop = stop_dot g x in
      let lead : (eqb v.first zero_digit && is_digit (peeked (v.more ++ rest))) ≡ false = leads n v rest stop.no_digit in
      let b : body_of look edition at o v.first (v.more ++ rest) arm.MinWidth ≡ Goes (with_width n o) precision (length v.more) None =
      ap (λ (y : Result Number FormatError). on_consumed y (λ n k. Goes (with_width n o) precision k None)) (number_read n rest v stop.no_digit) in
      ap (λ (l : List ℕ). parse_from add look edition 0 at p o pool (l ++ rest)) v.is
      ∙ turn add look edition at p o pool v.first (v.more ++ rest) (l.digit_arm v.first _ v.digit (v.no_sign rest stop.no_sign) lead) b
      ∙ ap (λ (l : List ℕ). parse_from add look edition 0 i precision (with_width n o) pool l) (drop-append_seam v.more rest)
      ∙ dots_read i precision precision_dots (Some n) g x t
    where
      leads : (n : ℕ) (v : Spelled n) (rest : List ℕ) → is_digit (peeked rest) ≡ false
          → (eqb v.first zero_digit && is_digit (peeked (v.more ++ rest))) ≡ false
      leads zero v rest e = rw (v.alone (omega arith), e) (and_no (eqb v.first zero_digit))
      leads (suc n) v rest e = rw (ne_eqb v.first zero_digit (λ q. omega (arith, v.positive (omega arith))))
