-- lexer.rs `get_next_token`, the match outside strings, in two parts: what an ASCII character begins, as a number, and the arm that has the
-- number. `ActionsLaws` proves that together they are the match.
-- Assumes nothing.
use Rattle.std.specs.Prelude.{ℕ, List, eqb}
use Rattle.base.specs.Pick.{pick}
use Rattle.fitness.specs.Ascii.{is_letter}
use Rattle.text.specs.Tests as char
use Rattle.text.specs.Tests.{is_whitespace, is_digit, is_line_end}
use Rattle.state.specs.declared.Lexer.{Lexer}
use Rattle.state.specs.declared.Taken.{Taken}
use Rattle.newlines.specs.ConsumeNewline.{consume_newline}
use Rattle.comments.specs.ConsumeComment.{consume_comment}
use Rattle.numbers.specs.ConsumeWhitespace.{consume_whitespace}
use Rattle.numbers.specs.ConsumeNumber.{consume_number}
use Rattle.names.specs.ConsumeIdOrKeyword.{consume_id_or_keyword, consume_ignored}
use Rattle.symbol_tokens.specs.ConsumeSymbol.{consume_symbol}
use Rattle.lexer.specs.GetNextToken.{start_string}

-- what an ASCII character begins
unfoldable pub action_of : ℕ → ℕ
action_of b =
    pick (is_whitespace b) 0
    (pick (is_line_end b) 1
    (pick (eqb b char.hash) 2
    (pick (eqb b char.double_quote) 3
    (pick (eqb b char.single_quote) 4
    (pick (is_digit b) 5
    (pick (is_letter b) 6
    (pick (eqb b char.underscore) 7 8)))))))

-- the arm that has the number
abbrev pub arm : (ℕ → ℕ) → List ℕ → Lexer → ℕ → Taken
arm look cs l n =
    pick (eqb n 0) (consume_whitespace cs l)
    (pick (eqb n 1) (consume_newline cs l)
    (pick (eqb n 2) (consume_comment look cs l)
    (pick (eqb n 3) (start_string 0 l)
    (pick (eqb n 4) (start_string 1 l)
    (pick (eqb n 5) (consume_number cs l)
    (pick (eqb n 6) (consume_id_or_keyword look cs l)
    (pick (eqb n 7) (consume_ignored look cs l)
    (consume_symbol cs l))))))))
