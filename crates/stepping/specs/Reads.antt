-- What a caller may know of a read step without looking into it: of one that finds a token, of one that stands still, and of one that
-- finds the end.
-- Assumes nothing.
use Rattle.std.specs.Prelude.{ℕ, ◌≤◌, ◌≡◌, true, ◌⊎◌, List, length, get_or}
use Rattle.utf8.specs.Read.{is_tail}
use Rattle.token.specs.Detail.{fits}
use Rattle.token.specs.declared.Token.{Token}
use Rattle.state.specs.Lexer.{reach_of}
use Rattle.state.specs.declared.State.{State}
use Rattle.lexer.specs.Fine.{Cuts}
use Rattle.lexer.specs.Keeps.{Joins}

-- the token u was read, from st to after
pub record Reads (s : List ℕ) (st : State) (u : Token) (after : State) : Type 0 where
  pub joins : Joins st.lexer after.lexer
  pub on : (reach_of st.lexer).byte.0 ≤ (reach_of after.lexer).byte.0
  pub shown : fits u.kind u.detail ≡ true
  pub last : after.lexer.previous_token ≡ u.kind
  pub cut : is_tail (get_or s (reach_of after.lexer).byte.0 0) ≡ true
      → Cuts s (reach_of st.lexer).byte.0 u.kind (reach_of after.lexer).byte.0

-- an Error stood still: the bytes and the span are those before it
abbrev pub Stays : State → State → Type 0
Stays st after = after.lexer.place ≡ st.lexer.place

-- nothing is left, or the place is inside a longer character
abbrev pub AtEnd : List ℕ → State → Type 0
AtEnd s st = ((reach_of st.lexer).byte.0 ≡ length s) ⊎ (is_tail (get_or s (reach_of st.lexer).byte.0 0) ≡ true)
