-- lexer.rs `get_next_token`, the arm of whitespace: spaces and tabs, whose count is the indent at the start and after NewLine.
-- Assumes nothing.
use Rattle.std.specs.Prelude.{ℕ, List}
use Rattle.token.specs.Kind.{whitespace}
use Rattle.text.specs.Tests.{is_whitespace}
use Rattle.text.specs.Count.{count_while}
use Rattle.state.specs.Lexer.{indented, token_along}
use Rattle.state.specs.declared.Lexer.{Lexer}
use Rattle.state.specs.declared.Taken.{Taken}

-- cs are the characters that are left
abbrev pub consume_whitespace : List ℕ → Lexer → Taken
consume_whitespace cs l = token_along whitespace (count_while is_whitespace cs) (indented (count_while is_whitespace cs) l)
