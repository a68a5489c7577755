-- lexer.rs `consume_comment`. "#-" opens a comment of many lines, whose "-" may also begin the close "-#". Inside, "#-" is passed over as
-- a pair and does not nest. Unclosed, it is an Error that reaches to the end.
-- Assumes nothing.
use Rattle.std.specs.Prelude.{ℕ, ◌+◌, ◌&&◌, List, eqb, drop}
use Rattle.base.specs.Pick.{pick}
use Rattle.position.specs.Place.{along_by}
use Rattle.property.specs.Parts.{width_of}
use Rattle.token.specs.Kind.{error, comment_single, comment_multi}
use Rattle.text.specs.Tests.{hash, minus, no_line_end}
use Rattle.text.specs.Count.{len_utf8, run_test}
use Rattle.text.specs.Follow.{next_is, Followed, Closed, Open, Stopped, follow}
use Rattle.text.specs.declared.Turn.{Turn}
use Rattle.text.specs.declared.Turn.TheVariants.{Pass, Close}
use Rattle.state.specs.Lexer.{reach_of, token_to, stuck_at}
use Rattle.state.specs.declared.Lexer.{Lexer}
use Rattle.state.specs.declared.Taken.{Taken}
use Rattle.newlines.specs.PlainTurn.{plain_turn}

-- one turn of the loop over a multi-line comment
unfoldable pub comment_turn : (ℕ → ℕ) → ℕ → List ℕ → Turn
comment_turn look c rest =
    -- '#' if chars.peek() == Some(&'-')
    pick (eqb c hash && next_is minus rest) (Pass (len_utf8 c + 1) (width_of (look c) + 1))
    -- '-' if chars.peek() == Some(&'#')
    (pick (eqb c minus && next_is hash rest) (Close (len_utf8 c + 1) (width_of (look c) + 1))
    -- '\r', '\n', _
    (plain_turn look c rest))

-- `end_found`: the token, or an Error
abbrev pub comment_token : Lexer → Followed → Taken
comment_token l (Closed end) = token_to comment_multi end l
comment_token l (Open end) = token_to error end l
comment_token l Stopped = stuck_at l

-- the multi-line comment; cs are the characters after its "#", which is passed
unfoldable pub consume_comment_multi : (ℕ → ℕ) → List ℕ → Lexer → Taken
consume_comment_multi look cs l = comment_token l (follow (comment_turn look) (along_by 1 1 (reach_of l)) cs)

-- the "#" has been matched; cs are the characters that are left, with it. A comment of one line ends before "\r" and "\n"
unfoldable pub consume_comment : (ℕ → ℕ) → List ℕ → Lexer → Taken
consume_comment look cs l =
    pick (next_is minus (drop 1 cs)) (consume_comment_multi look (drop 1 cs) l)
    (token_to comment_single (run_test look no_line_end (along_by 1 1 (reach_of l)) (drop 1 cs)) l)
