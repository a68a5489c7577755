-- How the step of the two halves, with room for 64 modes, mirrors lexer.rs's `get_next_token`, whose stack has no bound, where that takes a
-- token: the same token and the same state, except that a token which leaves more than 64 modes is told apart, with the state unchanged.
-- Assumes nothing.
use Rattle.std.specs.Prelude.{ℕ, ◌<◌, ◌≤◌, ◌≡◌, List, length}
use Rattle.state.specs.Lexer.{remembered}
use Rattle.state.specs.Stack.{changed, stack_of}
use Rattle.state.specs.declared.Lexer.{Lexer}
use Rattle.state.specs.declared.State.{State}
use Rattle.state.specs.declared.Taken.{Taken}
use Rattle.lexer.specs.Step.{modes_most, what_of}
use Rattle.lexer.specs.declared.Step.{Step}
use Rattle.lexer.specs.declared.What.TheVariants as what

-- the same place, indent and previous token
pub record Same (l m : Lexer) : Type 0 where
  pub place : l.place ≡ m.place
  pub indent : l.indent ≡ m.indent
  pub previous : l.previous_token ≡ m.previous_token

-- the modes that this token leaves
abbrev pub modes_after : State → Taken → List ℕ
modes_after st t = changed t.change (stack_of st.modes)

-- the step r from the state st, where this token is taken
pub record Follows (st : State) (t : Taken) (r : Step) : Type 0 where
  pub full : modes_most < length (modes_after st t) → (r.what ≡ what.ModesFull) × (r.state ≡ st)
  pub found : length (modes_after st t) ≤ modes_most → r.what ≡ what_of st.lexer t
  pub stack : length (modes_after st t) ≤ modes_most → stack_of r.state.modes ≡ modes_after st t
  pub lexer : length (modes_after st t) ≤ modes_most → Same r.state.lexer (remembered t.token.kind t.lexer)
