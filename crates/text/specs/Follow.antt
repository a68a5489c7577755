-- lexer.rs, the loops of `consume_comment`, `consume_string_literal` and `consume_raw_string_contents`: what one of them does at a
-- character is its turn, and the loop follows the turns. A turn is given the character and the characters after it.
-- Assumes nothing.
use Rattle.std.specs.Prelude.{ℕ, zero, suc, ◌-◌, Bool, false, List, [], ◌∷◌, eqb}
use Rattle.position.specs.Place.{along_by, line_by}
use Rattle.position.specs.declared.Reach.{Reach}
use Rattle.text.specs.Count.{len_utf8}
use Rattle.text.specs.declared.Turn.{Turn}
use Rattle.text.specs.declared.Turn.TheVariants.{Pass, Line, Close, Stuck}

-- `chars.peek() == Some(&d)`
unfoldable pub next_is : ℕ → List ℕ → Bool
next_is d [] = false
next_is d (c ∷ cs) = eqb c d

-- what a loop comes to: it closes, it reaches the end, or it meets an Error that passes nothing
pub data Followed : Type 0 where
  Closed : Reach → Followed
  Open : Reach → Followed
  Stopped : Followed

-- the characters left once so many bytes are passed
unfoldable pub drop_bytes : ℕ → List ℕ → List ℕ
drop_bytes k [] = []
drop_bytes (suc k) (c ∷ cs) = drop_bytes (suc k - len_utf8 c) cs
drop_bytes zero (c ∷ cs) = c ∷ cs

-- the loop from r on. The Rust's loop takes as many characters from `chars` as its arm matched; a turn says how many bytes it passes, and k
-- is what it still owes of them: bytes of the characters that are left which belong to what was passed. While k is not 0, a character pays
-- its own bytes and no turn is asked
unfoldable pub follow_in : (ℕ → List ℕ → Turn) → ℕ → Reach → List ℕ → Followed
follow_in turn k r [] = Open r
follow_in turn (suc k) r (c ∷ cs) = follow_in turn (suc k - len_utf8 c) r cs
follow_in turn zero r (c ∷ cs) =
    elim (turn c cs) [
      | Pass b w ↦ follow_in turn (b - len_utf8 c) (along_by b w r) cs
      | Line b ↦ follow_in turn (b - len_utf8 c) (line_by b r) cs
      | Close b w ↦ Closed (along_by b w r)
      | Stuck ↦ Stopped
    ]

abbrev pub follow : (ℕ → List ℕ → Turn) → Reach → List ℕ → Followed
follow turn r cs = follow_in turn 0 r cs

-- the turn at the front of what is left
unfoldable pub turn_at : (ℕ → List ℕ → Turn) → List ℕ → Turn
turn_at turn [] = Stuck
turn_at turn (c ∷ cs) = turn c cs
