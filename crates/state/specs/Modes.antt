-- lexer.rs `StringMode`: a mode as a code, its tag times 512 and its delimiter. A delimiter is twice the hash count, and 1 more for a
-- single quote, so a literal's is 0 or 1; the other modes have none. No mode is the code 0.
-- Assumes nothing.
use Rattle.std.specs.Prelude.{ℕ, ◌+◌, ◌*◌, ◌/◌, ◌%◌, eqb}
use Rattle.base.specs.Pick.{pick}

-- ---- the tags

-- inside a string literal, expecting an end quote or the start of a template expression
abbrev pub literal : ℕ
literal = 1

-- inside a string template, e.g. '{...}'
abbrev pub template_expr : ℕ
template_expr = 2

-- inside an inline map in a template expression, whose closing brace does not end the expression
abbrev pub template_expr_inline_map : ℕ
template_expr_inline_map = 3

-- inside formatting options for a template expression, e.g. '{...:03}'
abbrev pub template_expr_format : ℕ
template_expr_format = 4

-- the start of a raw string has just been consumed
abbrev pub raw_start : ℕ
raw_start = 5

-- the contents of a raw string have just been consumed
abbrev pub raw_end : ℕ
raw_end = 6

-- ---- codes

abbrev pub mode_code : ℕ → ℕ → ℕ
mode_code tag delimiter = tag * 512 + delimiter

abbrev pub tag_of : ℕ → ℕ
tag_of code = code / 512

abbrev pub delimiter_of : ℕ → ℕ
delimiter_of code = code % 512

-- the quote's character: lexer.rs `StringQuote::as_char`
abbrev pub quote_of : ℕ → ℕ
quote_of delimiter = pick (eqb (delimiter % 2) 0) 34 39

abbrev pub hash_count_of : ℕ → ℕ
hash_count_of delimiter = delimiter / 2
