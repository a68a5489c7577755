-- lexer.rs, the predicates on characters, of a code point. Those that `consume_and_count_utf8` is called with take its properties too.
-- Assumes nothing.
use Rattle.std.specs.Prelude.{ℕ, Bool, not, ◌||◌, eqb}
use Rattle.base.specs.Range.{inside}
use Rattle.property.specs.Parts.{xid_continue}

-- ---- the characters that are named here

abbrev pub tab : ℕ
tab = 9

abbrev pub lf : ℕ
lf = 10

abbrev pub cr : ℕ
cr = 13

abbrev pub space : ℕ
space = 32

abbrev pub double_quote : ℕ
double_quote = 34

abbrev pub hash : ℕ
hash = 35

abbrev pub single_quote : ℕ
single_quote = 39

abbrev pub plus : ℕ
plus = 43

abbrev pub minus : ℕ
minus = 45

abbrev pub dot : ℕ
dot = 46

abbrev pub zero_digit : ℕ
zero_digit = 48

abbrev pub less : ℕ
less = 60

abbrev pub greater : ℕ
greater = 62

abbrev pub backslash : ℕ
backslash = 92

abbrev pub caret : ℕ
caret = 94

abbrev pub underscore : ℕ
underscore = 95

abbrev pub letter_b : ℕ
letter_b = 98

abbrev pub letter_e : ℕ
letter_e = 101

abbrev pub letter_o : ℕ
letter_o = 111

abbrev pub letter_u : ℕ
letter_u = 117

abbrev pub letter_x : ℕ
letter_x = 120

abbrev pub curly_open : ℕ
curly_open = 123

abbrev pub curly_close : ℕ
curly_close = 125

abbrev pub tilde : ℕ
tilde = 126

-- ---- the predicates

-- `is_whitespace`
unfoldable pub is_whitespace : ℕ → Bool
is_whitespace c = eqb c space || eqb c tab

-- `is_ascii_digit`
abbrev pub is_digit : ℕ → Bool
is_digit c = inside c 48 57

-- `is_binary_digit`
unfoldable pub is_binary_digit : ℕ → Bool
is_binary_digit c = inside c 48 49 || eqb c underscore

-- `is_octal_digit`
unfoldable pub is_octal_digit : ℕ → Bool
is_octal_digit c = inside c 48 55 || eqb c underscore

-- `is_decimal_digit`
unfoldable pub is_decimal_digit : ℕ → Bool
is_decimal_digit c = is_digit c || eqb c underscore

-- `is_hex_digit`
unfoldable pub is_hex_digit : ℕ → Bool
is_hex_digit c = is_digit c || (inside c 97 102 || (inside c 65 70 || eqb c underscore))

-- `|c| c == '#'`
abbrev pub is_hash : ℕ → Bool
is_hash c = eqb c hash

-- '\r' or '\n'
unfoldable pub is_line_end : ℕ → Bool
is_line_end c = eqb c lf || eqb c cr

-- ---- the predicates that `consume_and_count_utf8` is called with, of a code point and its properties

-- no end of a line
unfoldable pub no_line_end : ℕ → ℕ → Bool
no_line_end c properties = not (is_line_end c)

-- `is_id_continue` asks for the properties
unfoldable pub id_continue : ℕ → ℕ → Bool
id_continue c properties = xid_continue properties

-- such a predicate, with the properties looked up
abbrev pub test_utf8_of : (ℕ → ℕ) → (ℕ → ℕ → Bool) → ℕ → Bool
test_utf8_of look test c = test c (look c)
