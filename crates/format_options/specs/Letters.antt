-- string_format_options.rs, what a single character of a format string means: the signs, the digits, and the letters of the
-- representations.
-- Assumes nothing.
use Rattle.std.specs.Prelude.{ℕ, Bool, ◌||◌, eqb, Option, Some, None}
use Rattle.base.specs.Pick.{pick}
use Rattle.base.specs.Range.{inside}
use Rattle.format_options.specs.declared.Alignment.{Alignment}
use Rattle.format_options.specs.declared.Alignment.TheVariants.{Left, Center, Right}
use Rattle.format_options.specs.declared.Representation.{Representation}
use Rattle.format_options.specs.declared.Representation.TheVariants.{Debug, HexLower, HexUpper, Binary, Octal, ExpLower, ExpUpper}

-- no character: one more than the last code point
abbrev pub no_char : ℕ
no_char = 0x110000

-- `'<'`, `'^'`, `'>'`
abbrev pub less : ℕ
less = 60

abbrev pub caret : ℕ
caret = 94

abbrev pub greater : ℕ
greater = 62

-- `'<' | '^' | '>'`
unfoldable pub is_sign : ℕ → Bool
is_sign c = eqb c less || (eqb c caret || eqb c greater)

-- `char_to_alignment`, which only the three signs reach
unfoldable pub char_to_alignment : ℕ → Alignment
char_to_alignment c = pick (eqb c less) Left (pick (eqb c caret) Center Right)

-- `'0'`
abbrev pub zero_digit : ℕ
zero_digit = 48

-- `'0'..='9'`
unfoldable pub is_digit : ℕ → Bool
is_digit c = inside c zero_digit 57

-- `'?'`, `'b'`, `'o'`, `'x'`, `'X'`, `'e'`, `'E'`
unfoldable pub representation_of : ℕ → Option Representation
representation_of c =
    pick (eqb c 63) (Some Debug)
    (pick (eqb c 98) (Some Binary)
    (pick (eqb c 111) (Some Octal)
    (pick (eqb c 120) (Some HexLower)
    (pick (eqb c 88) (Some HexUpper)
    (pick (eqb c 101) (Some ExpLower)
    (pick (eqb c 69) (Some ExpUpper)
    None))))))
