-- The state's invariant between two steps, stated once: the lexer is fine, what was read last is behind it, the copies agree with a stack
-- of at most 64, the end delimiter stands where RawEnd is on top, and RawEnd is never below the top. And the measure that a step falls in
-- which does not stand still.
-- Assumes nothing.
use Rattle.std.specs.Prelude.{ℕ, ◌+◌, ◌*◌, ◌-◌, ◌≤◌, ◌<◌, ◌≡◌, List, eqb, length, get_or}
use Rattle.base.specs.Pick.{pick}
use Rattle.state.specs.Modes.{raw_start, raw_end, tag_of, delimiter_of}
use Rattle.state.specs.Lexer.{reach_of}
use Rattle.state.specs.Stack.{Agrees}
use Rattle.state.specs.declared.State.{State}
use Rattle.strings.specs.Delimited.{Delimited}
use Rattle.lexer.specs.Fine.{Fine}

pub record Ok (s : List ℕ) (st : State) : Type 0 where
  pub fine : Fine s st.lexer
  pub behind : st.lexer.place.previous_byte.0 ≤ (reach_of st.lexer).byte.0
  pub agrees : Agrees st
  pub marked : tag_of st.lexer.mode ≡ raw_end → Delimited s (delimiter_of st.lexer.mode) (reach_of st.lexer).byte.0
  pub below : (k : ℕ) → k + 1 < st.modes.depth → tag_of (get_or st.modes.codes k 0) ≡ raw_end → ⊥

-- the bytes that are left, then the modes; an empty raw string's contents turn RawStart into RawEnd
abbrev pub measure : List ℕ → State → ℕ
measure s st =
    4 * (length s - (reach_of st.lexer).byte.0) + (2 * st.modes.depth + pick (eqb (tag_of st.lexer.mode) raw_start) 1 0)
