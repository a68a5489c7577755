-- lexer.rs `TokenLexer`: what its methods do to the state, less the stack of modes, which `Stack` has. What a `consume_*` makes is the
-- token, the lexer after it, and what becomes of the stack.
-- Assumes nothing.
use Rattle.std.specs.Prelude.{ℕ, ◌||◌, eqb}
use Rattle.base.specs.Pick.{pick}
use Rattle.position.specs.Place as place
use Rattle.position.specs.declared.Place.{Place}
use Rattle.position.specs.declared.Reach.{Reach}
use Rattle.token.specs.Kind.{error, new_line, no_token}
use Rattle.token.specs.Token.{token_of}
use Rattle.state.specs.declared.Change.TheVariants.{Keep}
use Rattle.state.specs.declared.Lexer.{Lexer}
use Rattle.state.specs.declared.Taken.{Taken}

-- `new`
abbrev pub start_lexer : Lexer
start_lexer = record { place = place.start_place; indent = 0; previous_token = no_token; depth = 0; mode = 0 }

-- the same, at another place
abbrev pub at_place : Place → Lexer → Lexer
at_place p l = record { place = p; indent = l.indent; previous_token = l.previous_token; depth = l.depth; mode = l.mode }

-- `advance_line_utf8`
abbrev pub advanced_line_utf8 : ℕ → ℕ → Lexer → Lexer
advanced_line_utf8 bytes columns l = at_place (place.advanced_line_utf8 bytes columns l.place) l

-- `advance_line`: ASCII, so the columns are the bytes
abbrev pub advanced_line : ℕ → Lexer → Lexer
advanced_line bytes l = advanced_line_utf8 bytes bytes l

-- `advance_to_position`
abbrev pub advanced_to : Reach → Lexer → Lexer
advanced_to end l = at_place (place.advanced_to_position end l.place) l

-- where the next token begins
abbrev pub reach_of : Lexer → Reach
reach_of l = place.reach_of l.place

-- the same, with another indent
abbrev pub with_indent : ℕ → Lexer → Lexer
with_indent n l = record { place = l.place; indent = n; previous_token = l.previous_token; depth = l.depth; mode = l.mode }

-- "Reset the indent after a newline."
abbrev pub settled : Lexer → Lexer
settled l = with_indent (pick (eqb l.previous_token new_line) 0 l.indent) l

-- whitespace at the start and after NewLine is the indent
abbrev pub indented : ℕ → Lexer → Lexer
indented count l = with_indent (pick (eqb l.previous_token new_line || eqb l.previous_token no_token) count l.indent) l

-- `self.previous_token = result`
abbrev pub remembered : ℕ → Lexer → Lexer
remembered kind l = record { place = l.place; indent = l.indent; previous_token = kind; depth = l.depth; mode = l.mode }

-- ---- what a `consume_*` makes

-- the token reaches to `end`
abbrev pub token_to : ℕ → Reach → Lexer → Taken
token_to kind end l = record { token = token_of kind; lexer = advanced_to end l; change = Keep }

-- the token has so many ASCII bytes
abbrev pub token_along : ℕ → ℕ → Lexer → Taken
token_along kind bytes l = record { token = token_of kind; lexer = advanced_line bytes l; change = Keep }

-- an Error that advances nothing
abbrev pub stuck_at : Lexer → Taken
stuck_at l = record { token = token_of error; lexer = l; change = Keep }
