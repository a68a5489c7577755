-- lexer.rs `string_mode_stack`: the modes as a stack, the top first. The code's array with its depth is such a stack (`stack_of`), and
-- `StackLaws` proves that `push`, `pop` and `replace` are the stack's.
-- Assumes nothing.
use Rattle.std.specs.Prelude.{ℕ, zero, suc, ◌≤◌, ◌≡◌, List, [], ◌∷◌, length, get_or}
use Rattle.state.specs.declared.Change.{Change}
use Rattle.state.specs.declared.Change.TheVariants.{Keep, Push, Pop, Replace}
use Rattle.state.specs.declared.Modes.{Modes}
use Rattle.state.specs.declared.State.{State}

-- `last()`: the top's code, or 0 where there is none
unfoldable pub top : List ℕ → ℕ
top [] = 0
top (m ∷ ms) = m

-- `pop()`
unfoldable pub rest : List ℕ → List ℕ
rest [] = []
rest (m ∷ ms) = ms

-- what becomes of the stack
abbrev pub changed : Change → List ℕ → List ℕ
changed Keep ms = ms
changed (Push m) ms = m ∷ ms
changed Pop ms = rest ms
changed (Replace m) ms = m ∷ rest ms

-- the first so many codes of an array, the last of them on top
unfoldable pub codes_of : List ℕ → ℕ → List ℕ
codes_of codes zero = []
codes_of codes (suc d) = get_or codes d 0 ∷ codes_of codes d

abbrev pub stack_of : Modes → List ℕ
stack_of m = codes_of m.codes m.depth

-- the copies agree with the stack, which has room for 64
pub record Agrees (s : State) : Type 0 where
  pub size : length s.modes.codes ≡ 64
  pub most : s.modes.depth ≤ 64
  pub depth : s.lexer.depth ≡ s.modes.depth
  pub mode : s.lexer.mode ≡ top (stack_of s.modes)
