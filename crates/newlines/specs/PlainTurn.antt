-- lexer.rs, the arms that the loops of `consume_comment`, `consume_string_literal` and `consume_raw_string_contents` have in common: a
-- newline begins a line, a "\r" without its "\n" stands still, and any other character is passed with its bytes and its width.
-- Assumes nothing.
use Rattle.std.specs.Prelude.{ℕ, List, eqb}
use Rattle.base.specs.Pick.{pick}
use Rattle.property.specs.Parts.{width_of}
use Rattle.text.specs.Tests.{cr, lf}
use Rattle.text.specs.Count.{len_utf8}
use Rattle.text.specs.Follow.{next_is}
use Rattle.text.specs.declared.Turn.{Turn}
use Rattle.text.specs.declared.Turn.TheVariants.{Pass, Line, Stuck}

-- c is the character, rest are those after it, and look gives the properties of a code point
unfoldable pub plain_turn : (ℕ → ℕ) → ℕ → List ℕ → Turn
plain_turn look c rest =
    -- '\r'
    pick (eqb c cr) (pick (next_is lf rest) (Line 2) Stuck)
    -- '\n'
    (pick (eqb c lf) (Line 1)
    -- _
    (Pass (len_utf8 c) (width_of (look c))))
