-- lexer.rs `get_next_token`, its match arm by arm: the token that is taken from a lexer, which has the Rust's fields, and of the modes the
-- depth and the one on top. What becomes of the stack stands beside the token (`change`). The Rust's own state, whose stack has no bound,
-- and the whole call over it stand in the crate `rust`. `look` gives the properties of a code point, and `edition` chooses the rules of
-- clusters (1 without GB9c, 2 with it).
-- Assumes nothing.
use Rattle.std.specs.Prelude.{ℕ, List, [], eqb, get_or, drop}
use Rattle.base.specs.Pick.{pick}
use Rattle.utf8.specs.Read.{is_tail}
use Rattle.utf8.specs.Chars.{chars}
use Rattle.property.specs.Parts.{xid_start}
use Rattle.token.specs.Kind.{string_start, string_end, curly_open}
use Rattle.token.specs.declared.Token.{Token}
use Rattle.text.specs.Tests as char
use Rattle.text.specs.Tests.{is_whitespace, is_digit, is_line_end}
use Rattle.state.specs.Modes.{literal, template_expr, template_expr_format, raw_start, raw_end, mode_code, tag_of, delimiter_of, quote_of}
use Rattle.token.specs.Token.{token_of}
use Rattle.state.specs.Lexer.{advanced_line}
use Rattle.state.specs.declared.Change.{Change}
use Rattle.state.specs.declared.Change.TheVariants.{Push, Pop}
use Rattle.state.specs.declared.Lexer.{Lexer}
use Rattle.state.specs.declared.Taken.{Taken}
use Rattle.newlines.specs.ConsumeNewline.{consume_newline}
use Rattle.comments.specs.ConsumeComment.{consume_comment}
use Rattle.strings.specs.ConsumeStringLiteral.{consume_string_literal}
use Rattle.strings.specs.ConsumeRawString.{consume_raw_string_contents, consume_raw_string_end}
use Rattle.options.specs.ConsumeFormatOptions.{consume_format_options}
use Rattle.numbers.specs.ConsumeWhitespace.{consume_whitespace}
use Rattle.numbers.specs.ConsumeNumber.{consume_number}
use Rattle.names.specs.ConsumeIdOrKeyword.{consume_id_or_keyword, consume_ignored}
use Rattle.symbol_tokens.specs.ConsumeSymbol.{consume_symbol}

-- ---- the arms

-- a token of one byte, with what becomes of the modes
abbrev pub one_byte : Token → Change → Lexer → Taken
one_byte token change l = record { token = token; lexer = advanced_line 1 l; change = change }

-- '"' and '\'': the start of a string; the delimiter is 0 for a double quote and 1 for a single one
abbrev pub start_string : ℕ → Lexer → Taken
start_string delimiter l = one_byte (record { kind = string_start; detail = delimiter }) (Push (mode_code literal delimiter)) l

-- `*chars.peek().unwrap()`: the first of the characters that are left, of which there is one
abbrev pub next_char : List ℕ → ℕ
next_char cs = get_or cs 0 0

-- `Some(StringMode::Literal(quote))`: the end quote, a template, or contents; c is the next character
unfoldable pub in_literal : (ℕ → ℕ) → ℕ → ℕ → List ℕ → Lexer → Taken
in_literal look quote c cs l =
    pick (eqb c quote) (one_byte (token_of string_end) Pop l)
    (pick (eqb c char.curly_open) (one_byte (token_of curly_open) (Push (mode_code template_expr 0)) l)
    (consume_string_literal look quote cs l))

-- `_ => match next_char`
unfoldable pub in_code : (ℕ → ℕ) → ℕ → List ℕ → Lexer → Taken
in_code look c cs l =
    pick (is_whitespace c) (consume_whitespace cs l)
    -- '\r' | '\n'
    (pick (is_line_end c) (consume_newline cs l)
    (pick (eqb c char.hash) (consume_comment look cs l)
    (pick (eqb c char.double_quote) (start_string 0 l)
    (pick (eqb c char.single_quote) (start_string 1 l)
    -- '0'..='9'
    (pick (is_digit c) (consume_number cs l)
    -- c if is_id_start(c)
    (pick (xid_start (look c)) (consume_id_or_keyword look cs l)
    (pick (eqb c char.underscore) (consume_ignored look cs l)
    (consume_symbol cs l))))))))

-- `match string_mode`: the mode on top decides
unfoldable pub take_token : (ℕ → ℕ) → ℕ → List ℕ → Lexer → Taken
take_token look edition cs l =
    let tag = tag_of l.mode in
    let delimiter = delimiter_of l.mode in
    pick (eqb tag literal) (in_literal look (quote_of delimiter) (next_char cs) cs l)
    (pick (eqb tag raw_start) (consume_raw_string_contents look delimiter cs l)
    (pick (eqb tag raw_end) (consume_raw_string_end delimiter l)
    (pick (eqb tag template_expr_format) (consume_format_options look edition cs l)
    (in_code look (next_char cs) cs l))))

-- ---- what is left

-- `self.source.get(self.current_byte..)`: the characters from a byte on; none at the end, nor inside a longer character
unfoldable pub remaining_at : List ℕ → ℕ → List ℕ
remaining_at s i = pick (is_tail (get_or s i 0)) [] (chars (drop i s))
