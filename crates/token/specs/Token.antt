-- lexer.rs `Token`: a kind with its detail, and the Rust's two questions about it.
-- Assumes nothing.
use Rattle.std.specs.Prelude.{Bool, ◌||◌, ℕ, eqb}
use Rattle.token.specs.Kind.{whitespace, new_line, comment_single, comment_multi, string_start}
use Rattle.token.specs.Detail.{normal_detail, raw_detail}
use Rattle.token.specs.declared.Token.{Token}

-- a token of a kind that has no detail
abbrev pub token_of : ℕ → Token
token_of kind = record { kind = kind; detail = 0 }

-- the start of a normal string with this quote
abbrev pub string_start_of : ℕ → Token
string_start_of quote = record { kind = string_start; detail = normal_detail quote }

-- the start of a raw string with this quote and so many hashes
abbrev pub raw_string_start_of : ℕ → ℕ → Token
raw_string_start_of quote hashes = record { kind = string_start; detail = raw_detail quote hashes }

-- `is_whitespace`: counted as whitespace
abbrev pub is_whitespace : Token → Bool
is_whitespace t = eqb t.kind whitespace || (eqb t.kind comment_multi || eqb t.kind comment_single)

-- `is_whitespace_including_newline`
abbrev pub is_whitespace_including_newline : Token → Bool
is_whitespace_including_newline t = is_whitespace t || eqb t.kind new_line
