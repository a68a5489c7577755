-- The options that four numbers are: those that the parse of a format string tells of an alignment, a width, a precision and a representation
-- (`alignment_number` and `representation_number` of `format_options`, `given_number` and `shown_number` of `parse`), read back.
-- `FieldsLaws` proves that they are read back.
-- Assumes nothing.
use Rattle.std.specs.Prelude.{ℕ, Bool, ◌&&◌, ◌||◌, leb, eqb, Option, Some, None}
use Rattle.base.specs.Pick.{pick}
use Rattle.fills.specs.Pad.{right, is_width}
use Rattle.parse.specs.Numbers.{no_number}
use Rattle.format_options.specs.declared.Alignment.{Alignment}
use Rattle.format_options.specs.declared.Alignment.TheVariants.{Default, Left, Center, Right}
use Rattle.format_options.specs.declared.Representation.TheVariants.{Debug, HexLower, HexUpper, Binary, Octal, ExpLower, ExpUpper}
use Rattle.format_options.specs.declared.Representation.{Representation}
use Rattle.asked.specs.declared.Fields.{Fields}

-- ---- which numbers are some

-- a representation, or that there is none
unfoldable pub is_shown_number : ℕ → Bool
is_shown_number n = eqb n no_number || leb n 6

-- a width and a precision, which has the numbers of a width
unfoldable pub are_numbers : ℕ → ℕ → Bool
are_numbers width precision = is_width width && is_width precision

-- an alignment, a width, a precision and a representation
unfoldable pub are_fields : ℕ → ℕ → ℕ → ℕ → Bool
are_fields alignment width precision representation = leb alignment right && (are_numbers width precision && is_shown_number representation)

-- ---- which options they are

unfoldable pub alignment_of : ℕ → Alignment
alignment_of n = pick (eqb n 1) Left (pick (eqb n 2) Center (pick (eqb n 3) Right Default))

unfoldable pub number_of : ℕ → Option ℕ
number_of n = pick (eqb n no_number) None (Some n)

unfoldable pub shown_of : ℕ → Option Representation
shown_of n =
    pick (eqb n 0) (Some Debug)
    (pick (eqb n 1) (Some HexLower)
    (pick (eqb n 2) (Some HexUpper)
    (pick (eqb n 3) (Some Binary)
    (pick (eqb n 4) (Some Octal)
    (pick (eqb n 5) (Some ExpLower)
    (pick (eqb n 6) (Some ExpUpper)
    None))))))

abbrev pub fields_of : ℕ → ℕ → ℕ → ℕ → Fields
fields_of alignment width precision representation =
    record { alignment = alignment_of alignment; width = number_of width; precision = number_of precision; representation = shown_of representation }
