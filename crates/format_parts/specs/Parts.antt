-- What stands behind the fill in the format string for options, and its parts that are one byte or none.
-- Assumes nothing.
use Rattle.std.specs.Prelude.{ℕ, List, [], ◌∷◌, ◌++◌, Option, Some, None}
use Rattle.format_options.specs.Letters.{less, caret, greater}
use Rattle.format_arms.specs.Arms.{dot}
use Rattle.format_options.specs.declared.Alignment.{Alignment}
use Rattle.format_options.specs.declared.Alignment.TheVariants.{Default, Left, Center, Right}
use Rattle.format_options.specs.declared.Representation.{Representation}
use Rattle.asked.specs.declared.Fields.{Fields}
use Rattle.wanted.specs.Candidate.{letter, sign_part, tail_for}

-- all parts
abbrev pub parts_of : Fields → List ℕ
parts_of f = sign_part f.alignment ++ tail_for f.width f.precision f.representation

-- ---- one byte or none

abbrev pub byte_part : Option ℕ → List ℕ
byte_part (Some byte) = byte ∷ []
byte_part None = []

-- the sign of an alignment
abbrev pub sign_byte : Alignment → Option ℕ
sign_byte Default = None
sign_byte Left = Some less
sign_byte Center = Some caret
sign_byte Right = Some greater

-- the dot before a precision
abbrev pub dot_byte : Option ℕ → Option ℕ
dot_byte (Some n) = Some dot
dot_byte None = None

-- the letter of a representation
abbrev pub letter_byte : Option Representation → Option ℕ
letter_byte (Some r) = Some (letter r)
letter_byte None = None
