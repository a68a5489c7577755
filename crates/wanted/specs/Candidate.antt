-- The string for options, constructed: the fill, the sign of the alignment, the width, a dot and the precision, the letter of the
-- representation, each where there is one. If any string is read back as the options, this one is, and it is the first of them
-- (`WriteLaws`). `writable` is whether it is.
-- Assumes nothing.
use Rattle.std.specs.Prelude.{ℕ, Bool, true, false, not, ◌&&◌, ◌||◌, List, [], ◌∷◌, ◌++◌, eqb, leb, length, Option, Some, None, is_some, Result, Ok, Err}
use Rattle.base.specs.Pick.{pick}
use Rattle.base.specs.Refusal.{format_most}
use Rattle.utf8.specs.Chars.{chars, check_from}
use Rattle.utf8.specs.declared.Utf8Error.{Utf8Error}
use Rattle.cluster.specs.First.{first_size}
use Rattle.format_options.specs.Letters.{less, caret, greater, zero_digit, is_sign, is_digit, representation_of}
use Rattle.format_arms.specs.Arms.{dot}
use Rattle.format_options.specs.declared.Alignment.{Alignment}
use Rattle.format_options.specs.declared.Alignment.TheVariants as alignment
use Rattle.format_options.specs.declared.Representation.{Representation}
use Rattle.format_options.specs.declared.Representation.TheVariants as representation
use Rattle.decimal.specs.Decimal.{digits}
use Rattle.asked.specs.Fields.{are_fields, fields_of}
use Rattle.asked.specs.declared.Fields.{Fields}
use Rattle.wanted.specs.Wanted.{Filled, Bytes, Unfilled, Asked}

-- ---- the options

-- options with the bytes of their fill
pub record Wanted : Type 0 where
  pub alignment : Alignment
  pub width : Option ℕ
  pub precision : Option ℕ
  pub representation : Option Representation
  pub fill : Filled

abbrev pub wanted_by : Fields → Filled → Wanted
wanted_by f fill = record { alignment = f.alignment; width = f.width; precision = f.precision; representation = f.representation; fill = fill }

-- the options that are asked for
abbrev pub wanted_for : Asked → Wanted
wanted_for a = wanted_by (fields_of a.alignment a.width a.precision a.representation) a.fill

-- ---- the parts

-- `'?'`, `'x'`, `'X'`, `'b'`, `'o'`, `'e'`, `'E'`
abbrev pub letter : Representation → ℕ
letter representation.Debug = 63
letter representation.HexLower = 120
letter representation.HexUpper = 88
letter representation.Binary = 98
letter representation.Octal = 111
letter representation.ExpLower = 101
letter representation.ExpUpper = 69

abbrev pub sign_part : Alignment → List ℕ
sign_part alignment.Default = []
sign_part alignment.Left = less ∷ []
sign_part alignment.Center = caret ∷ []
sign_part alignment.Right = greater ∷ []

abbrev pub width_part : Option ℕ → List ℕ
width_part (Some n) = digits n
width_part None = []

abbrev pub precision_part : Option ℕ → List ℕ
precision_part (Some n) = dot ∷ digits n
precision_part None = []

abbrev pub letter_part : Option Representation → List ℕ
letter_part (Some r) = letter r ∷ []
letter_part None = []

abbrev pub fill_part : Filled → List ℕ
fill_part (Bytes f) = f
fill_part Unfilled = []

-- all after the sign
abbrev pub tail_for : Option ℕ → Option ℕ → Option Representation → List ℕ
tail_for width precision shown = width_part width ++ (precision_part precision ++ letter_part shown)

abbrev pub candidate : Wanted → List ℕ
candidate w = fill_part w.fill ++ (sign_part w.alignment ++ tail_for w.width w.precision w.representation)

-- ---- whether it is read back

abbrev pub is_given : Option ℕ → Bool
is_given width = is_some width

abbrev pub is_shown : Option Representation → Bool
is_shown shown = is_some shown

abbrev pub is_default : Alignment → Bool
is_default alignment.Default = true
is_default _ = false

-- something stands after the sign
abbrev pub has_tail : Option ℕ → Option ℕ → Option Representation → Bool
has_tail width precision shown = is_given width || (is_given precision || is_shown shown)

abbrev pub is_bare : Wanted → Bool
is_bare w = not (has_tail w.width w.precision w.representation)

-- an arm before that of a cluster takes c, whatever follows
abbrev pub is_taken : ℕ → Bool
is_taken c = is_sign c || (is_digit c || is_shown (representation_of c))

-- b, where the bytes are well formed
abbrev pub on_fine : Result (Unit {0}) Utf8Error → Bool → Bool
on_fine (Ok _) b = b
on_fine (Err _) b = false

-- a fill of one character: before a sign, any; "0" before a width; alone, one that the arm of a cluster gets
abbrev pub one_fits : Wanted → ℕ → Bool
one_fits w c = pick (is_default w.alignment) (pick (eqb c zero_digit) (is_given w.width) (is_bare w && not (is_taken c))) true

module _ (look : ℕ → ℕ) (edition : ℕ) (w : Wanted) where
  -- a fill of the characters c, d and those of cs: the arm of a cluster gets it, and it is the first cluster of what is written
  abbrev pub many_fits : ℕ → ℕ → List ℕ → Bool
  many_fits c d cs =
      not (is_taken c || (eqb c dot || is_sign d))
      && (eqb (first_size look edition ((c ∷ d ∷ cs) ++ sign_part w.alignment)) (length (c ∷ d ∷ cs))
      && pick (is_default w.alignment) (is_bare w) true)

  abbrev pub chars_fit : List ℕ → Bool
  chars_fit [] = false
  chars_fit (c ∷ []) = one_fits w c
  chars_fit (c ∷ d ∷ cs) = many_fits c d cs

  abbrev pub fill_fits : Filled → Bool
  fill_fits (Bytes f) = on_fine (check_from 0 f) (chars_fit (chars f))
  fill_fits Unfilled = true

  unfoldable pub writable : Bool
  writable = leb (length (candidate w)) format_most && fill_fits w.fill

-- a string is written: the numbers are some options', and their string is read back
unfoldable pub can_write : (ℕ → ℕ) → ℕ → Asked → Bool
can_write look edition a =
    are_fields a.alignment a.width a.precision a.representation && writable look edition (wanted_for a)
