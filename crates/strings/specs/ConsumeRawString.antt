-- lexer.rs `consume_raw_string_contents` and `consume_raw_string_end`: contents up to a quote with as many hashes after it as opened the
-- string; a quote with fewer stays contents, with its hashes. Then the end delimiter.
-- Assumes nothing.
use Rattle.std.specs.Prelude.{ℕ, zero, suc, ◌+◌, true, false, List, [], ◌∷◌, eqb}
use Rattle.base.specs.Pick.{pick}
use Rattle.position.specs.declared.Reach.{Reach}
use Rattle.token.specs.Kind.{string_literal, string_end}
use Rattle.text.specs.Tests.{hash}
use Rattle.text.specs.Follow.{Followed, Closed, Open, Stopped, follow}
use Rattle.text.specs.declared.Turn.{Turn}
use Rattle.text.specs.declared.Turn.TheVariants.{Pass, Close}
use Rattle.state.specs.Modes.{raw_end, mode_code, quote_of, hash_count_of}
use Rattle.token.specs.Token.{token_of}
use Rattle.state.specs.Lexer.{reach_of, advanced_line, advanced_to, stuck_at}
use Rattle.state.specs.declared.Change.TheVariants.{Pop, Replace}
use Rattle.state.specs.declared.Lexer.{Lexer}
use Rattle.state.specs.declared.Taken.{Taken}
use Rattle.newlines.specs.PlainTurn.{plain_turn}

-- how many hashes stand first, of at most so many
unfoldable pub hashes : ℕ → List ℕ → ℕ
hashes most [] = 0
hashes zero (c ∷ cs) = 0
hashes (suc most) (c ∷ cs) = elim (eqb c hash) [ true ↦ suc (hashes most cs) | false ↦ 0 ]

-- at a quote: the end, or contents with the n hashes that follow it
unfoldable pub quote_turn : ℕ → ℕ → Turn
quote_turn hashCount n = pick (eqb n hashCount) (Close 0 0) (Pass (1 + n) (1 + n))

-- one turn of the loop
unfoldable pub raw_turn : (ℕ → ℕ) → ℕ → ℕ → List ℕ → Turn
raw_turn look delimiter c rest =
    -- the quote: is this the end delimiter?
    pick (eqb c (quote_of delimiter)) (quote_turn (hash_count_of delimiter) (hashes (hash_count_of delimiter) rest))
    -- '\r', '\n', _
    (plain_turn look c rest)

-- the mode RawStart gives way to RawEnd
abbrev pub raw_closed : ℕ → Lexer → Reach → Taken
raw_closed delimiter l end =
    record { token = token_of string_literal; lexer = advanced_to end l; change = Replace (mode_code raw_end delimiter) }

abbrev pub raw_token : ℕ → Lexer → Followed → Taken
raw_token delimiter l (Closed end) = raw_closed delimiter l end
raw_token delimiter l (Open end) = stuck_at l
raw_token delimiter l Stopped = stuck_at l

-- cs are the characters that are left
unfoldable pub consume_raw_string_contents : (ℕ → ℕ) → ℕ → List ℕ → Lexer → Taken
consume_raw_string_contents look delimiter cs l = raw_token delimiter l (follow (raw_turn look delimiter) (reach_of l) cs)

-- the end delimiter has already been matched with the contents
abbrev pub consume_raw_string_end : ℕ → Lexer → Taken
consume_raw_string_end delimiter l =
    record { token = token_of string_end; lexer = advanced_line (1 + hash_count_of delimiter) l; change = Pop }
