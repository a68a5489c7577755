-- lexer.rs `consume_symbol`, and what a symbol does to the modes of a template (`match (result, string_mode)`). In a template "{" pushes
-- the map mode, ":" the format mode, and "}" pops; in map mode "{" pushes nothing and "}" pops. An unknown symbol is an Error of one byte.
-- Assumes nothing.
use Rattle.std.specs.Prelude.{ℕ, List, eqb, Option, Some, None}
use Rattle.base.specs.Pick.{pick}
use Rattle.utf8.specs.Encode.{encode_all}
use Rattle.token.specs.Kind.{error, colon, curly_open, curly_close}
use Rattle.symbols.specs.Symbols.{symbol_of}
use Rattle.symbols.specs.declared.Symbol.{Symbol}
use Rattle.state.specs.Modes.{template_expr, template_expr_inline_map, template_expr_format, mode_code}
use Rattle.token.specs.Token.{token_of}
use Rattle.state.specs.Lexer.{advanced_line, token_along}
use Rattle.state.specs.declared.Change.{Change}
use Rattle.state.specs.declared.Change.TheVariants.{Keep, Push, Pop}
use Rattle.state.specs.declared.Lexer.{Lexer}
use Rattle.state.specs.declared.Taken.{Taken}

-- what becomes of the modes at a token of this kind, where this mode is on top
unfoldable pub symbol_change : ℕ → ℕ → Change
symbol_change mode kind =
    pick (eqb mode (mode_code template_expr 0))
    -- (CurlyOpen, Some(TemplateExpr))
    (pick (eqb kind curly_open) (Push (mode_code template_expr_inline_map 0))
    -- (Colon, Some(TemplateExpr))
    (pick (eqb kind colon) (Push (mode_code template_expr_format 0))
    -- (CurlyClose, Some(TemplateExpr | TemplateExprInlineMap))
    (pick (eqb kind curly_close) Pop Keep)))
    (pick (eqb mode (mode_code template_expr_inline_map 0)) (pick (eqb kind curly_close) Pop Keep) Keep)

abbrev pub symbol_token : Option Symbol → Lexer → Taken
symbol_token (Some x) l =
    record { token = token_of x.kind; lexer = advanced_line x.len l; change = symbol_change l.mode x.kind }
symbol_token None l = token_along error 1 l

-- cs are the characters that are left
abbrev pub consume_symbol : List ℕ → Lexer → Taken
consume_symbol cs l = symbol_token (symbol_of (encode_all cs)) l
