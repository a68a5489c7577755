-- lexer.rs `consume_string_literal`: contents up to the end quote, or up to a "{", where a template expression begins. The escapes passed
-- over are those of the Rust; "\u{" covers its brace. Unclosed, it is an Error that stands still.
-- Assumes nothing.
use Rattle.std.specs.Prelude.{ℕ, List, eqb, drop}
use Rattle.base.specs.Pick.{pick}
use Rattle.token.specs.Kind.{string_literal}
use Rattle.text.specs.Tests.{backslash, letter_u, curly_open}
use Rattle.text.specs.Follow.{next_is, Followed, Closed, Open, Stopped, follow}
use Rattle.text.specs.declared.Turn.{Turn}
use Rattle.text.specs.declared.Turn.TheVariants.{Pass, Close}
use Rattle.state.specs.Lexer.{reach_of, token_to, stuck_at}
use Rattle.state.specs.declared.Lexer.{Lexer}
use Rattle.state.specs.declared.Taken.{Taken}
use Rattle.newlines.specs.PlainTurn.{plain_turn}

-- after a backslash: how many characters are passed, of which rest follow the backslash
unfoldable pub escape_turn : ℕ → List ℕ → Turn
escape_turn quote rest =
    -- Some('u'), and `chars.peek() == Some(&'{')`
    pick (next_is letter_u rest) (pick (next_is curly_open (drop 1 rest)) (Pass 3 3) (Pass 2 2))
    -- Some('{')
    (pick (next_is curly_open rest) (Pass 2 2)
    -- Some('\\')
    (pick (next_is backslash rest) (Pass 2 2)
    -- the end quote
    (pick (next_is quote rest) (Pass 2 2)
    (Pass 1 1))))

-- one turn of the loop
unfoldable pub literal_turn : (ℕ → ℕ) → ℕ → ℕ → List ℕ → Turn
literal_turn look quote c rest =
    -- the end quote
    pick (eqb c quote) (Close 0 0)
    -- '{'
    (pick (eqb c curly_open) (Close 0 0)
    -- '\\'
    (pick (eqb c backslash) (escape_turn quote rest)
    -- '\r', '\n', _
    (plain_turn look c rest)))

abbrev pub literal_token : Lexer → Followed → Taken
literal_token l (Closed end) = token_to string_literal end l
literal_token l (Open end) = stuck_at l
literal_token l Stopped = stuck_at l

-- cs are the characters that are left
unfoldable pub consume_string_literal : (ℕ → ℕ) → ℕ → List ℕ → Lexer → Taken
consume_string_literal look quote cs l = literal_token l (follow (literal_turn look quote) (reach_of l) cs)
