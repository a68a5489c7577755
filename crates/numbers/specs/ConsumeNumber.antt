-- lexer.rs `consume_number`: how many bytes a number has, all of which are ASCII. A digit has been matched.
-- Assumes nothing.
use Rattle.std.specs.Prelude.{ℕ, ◌+◌, Bool, false, ◌&&◌, ◌||◌, List, [], ◌∷◌, eqb, drop}
use Rattle.base.specs.Pick.{pick}
use Rattle.token.specs.Kind.{number}
use Rattle.text.specs.Tests.{plus, minus, dot, zero_digit, letter_b, letter_e, letter_o, letter_x, is_digit, is_binary_digit, is_octal_digit, is_decimal_digit, is_hex_digit}
use Rattle.text.specs.Count.{count_while}
use Rattle.text.specs.Follow.{next_is}
use Rattle.state.specs.Lexer.{token_along}
use Rattle.state.specs.declared.Lexer.{Lexer}
use Rattle.state.specs.declared.Taken.{Taken}

-- `matches!(chars.peek(), Some(c) if predicate(c))`
unfoldable pub next_passes : (ℕ → Bool) → List ℕ → Bool
next_passes f [] = false
next_passes f (c ∷ cs) = f c

-- '+' or '-' is next
abbrev pub next_sign : List ℕ → Bool
next_sign cs = next_is plus cs || next_is minus cs

-- "if chars.peek() == Some(&'e') && allow_exponent": the exponent at the front of cs
unfoldable pub exponent_bytes : List ℕ → ℕ
exponent_bytes cs =
    pick (next_is letter_e cs)
    (pick (next_sign (drop 1 cs)) (2 + count_while is_decimal_digit (drop 2 cs)) (1 + count_while is_decimal_digit (drop 1 cs)))
    0

-- what follows a dot belongs to the number: a digit, or an exponent ("check that this isn't a function call starting with 'e'")
unfoldable pub is_fraction : List ℕ → Bool
is_fraction cs =
    next_passes is_digit cs || (next_is letter_e cs && (next_passes is_decimal_digit (drop 1 cs) || next_sign (drop 1 cs)))

-- the fraction's digits, and then the exponent; cs are the characters after the dot
unfoldable pub fraction_bytes : List ℕ → ℕ
fraction_bytes cs = let digits = count_while is_decimal_digit cs in digits + exponent_bytes (drop digits cs)

-- what follows the whole part
unfoldable pub tail_bytes : List ℕ → ℕ
tail_bytes cs = pick (next_is dot cs) (pick (is_fraction (drop 1 cs)) (1 + fraction_bytes (drop 1 cs)) 0) (exponent_bytes cs)

-- what follows a leading zero alone: binary, octal or hex digits with no exponent after them, or what follows any whole part
unfoldable pub zero_bytes : List ℕ → ℕ
zero_bytes cs =
    pick (next_is letter_b cs) (1 + count_while is_binary_digit (drop 1 cs))
    (pick (next_is letter_o cs) (1 + count_while is_octal_digit (drop 1 cs))
    (pick (next_is letter_x cs) (1 + count_while is_hex_digit (drop 1 cs)) (tail_bytes cs)))

-- cs are the characters that are left, from the first digit on
unfoldable pub number_bytes : List ℕ → ℕ
number_bytes cs =
    let whole = 1 + count_while is_decimal_digit (drop 1 cs) in
    whole + pick (next_is zero_digit cs && eqb whole 1) (zero_bytes (drop whole cs)) (tail_bytes (drop whole cs))

abbrev pub consume_number : List ℕ → Lexer → Taken
consume_number cs l = token_along number (number_bytes cs) l
