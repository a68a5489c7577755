-- lexer.rs `consume_newline`: "\n", or "\r" and "\n". What else follows a "\r" makes an Error that stands still.
-- Assumes nothing.
use Rattle.std.specs.Prelude.{ℕ, List, drop}
use Rattle.base.specs.Pick.{pick}
use Rattle.position.specs.Place.{line_by}
use Rattle.token.specs.Kind.{new_line}
use Rattle.text.specs.Tests.{cr, lf}
use Rattle.text.specs.Follow.{next_is}
use Rattle.state.specs.Lexer.{reach_of, token_to, stuck_at}
use Rattle.state.specs.declared.Lexer.{Lexer}
use Rattle.state.specs.declared.Taken.{Taken}

-- where "\n" is next, the token of so many bytes
unfoldable pub line_feed : ℕ → List ℕ → Lexer → Taken
line_feed bytes cs l = pick (next_is lf cs) (token_to new_line (line_by bytes (reach_of l)) l) (stuck_at l)

-- cs are the characters that are left
unfoldable pub consume_newline : List ℕ → Lexer → Taken
consume_newline cs l = pick (next_is cr cs) (line_feed 2 (drop 1 cs) l) (line_feed 1 cs l)
