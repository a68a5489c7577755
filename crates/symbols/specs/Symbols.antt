-- lexer.rs `check_symbol!`: symbols as fixed byte strings, in the Rust's order ("longest first where 000 does", document 01). A symbol is
-- told by the bytes that are left to read.
-- Assumes nothing.
use Rattle.std.specs.Prelude.{List, [], ◌∷◌, ℕ, length, Option, Some, None}
use Rattle.token.specs.Kind.{at_kind, colon, comma, dot, ellipsis, function, round_open, round_close, square_open, square_close, curly_open, curly_close, range, range_inclusive, semicolon, question_mark}
use Rattle.token.specs.Kind.{add, subtract, multiply, divide, remainder, power, assign, add_assign, subtract_assign, multiply_assign, divide_assign, remainder_assign, power_assign}
use Rattle.token.specs.Kind.{equal, not_equal, greater, greater_or_equal, less, less_or_equal, arrow}
use Rattle.words.specs.Words.{Entry, entry, starts_with, first_in}
use Rattle.symbols.specs.declared.Symbol.{Symbol}

-- `check_symbol!`
abbrev pub symbols : List Entry
symbols =
    entry "..." ellipsis
    ∷ entry "..=" range_inclusive
    ∷ entry ".." range
    ∷ entry "->" arrow
    ∷ entry "==" equal
    ∷ entry "!=" not_equal
    ∷ entry ">=" greater_or_equal
    ∷ entry "<=" less_or_equal
    ∷ entry ">" greater
    ∷ entry "<" less
    ∷ entry "=" assign
    ∷ entry "+=" add_assign
    ∷ entry "-=" subtract_assign
    ∷ entry "*=" multiply_assign
    ∷ entry "/=" divide_assign
    ∷ entry "%=" remainder_assign
    ∷ entry "^=" power_assign
    ∷ entry "+" add
    ∷ entry "-" subtract
    ∷ entry "*" multiply
    ∷ entry "/" divide
    ∷ entry "%" remainder
    ∷ entry "^" power
    ∷ entry "@" at_kind
    ∷ entry ":" colon
    ∷ entry ";" semicolon
    ∷ entry "," comma
    ∷ entry "." dot
    ∷ entry "?" question_mark
    ∷ entry "(" round_open
    ∷ entry ")" round_close
    ∷ entry "|" function
    ∷ entry "[" square_open
    ∷ entry "]" square_close
    ∷ entry "{" curly_open
    ∷ entry "}" curly_close
    ∷ []

-- a symbol by its kind and how many bytes it has
abbrev pub symbol : ℕ → ℕ → Symbol
symbol kind len = record { kind = kind; len = len }

-- an entry as the symbol that was found
abbrev pub found : Entry → Option Symbol
found e = Some (symbol e.kind (length e.text))

-- the first of some symbols that the bytes l begin with
unfoldable pub symbol_in : List Entry → List ℕ → Option Symbol
symbol_in es l = first_in (λ e. starts_with e.text l) found None es

-- the symbol that the bytes l begin with
unfoldable pub symbol_of : List ℕ → Option Symbol
symbol_of l = symbol_in symbols l
