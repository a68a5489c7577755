-- The read step as the code makes it: the lexer's half, and what becomes of the modes; then both halves together. A token that would
-- push a 65th mode is told apart, with the state unchanged. An Error that stands still is told apart from other tokens.
-- Assumes nothing.
use Rattle.std.specs.Prelude.{ℕ, Bool, true, false, ◌&&◌, List, [], ◌∷◌, ltb, eqb}
use Rattle.base.specs.Pick.{pick}
use Rattle.token.specs.Kind.{error}
use Rattle.state.specs.Lexer.{settled, remembered}
use Rattle.state.specs.State.{changed_by}
use Rattle.state.specs.declared.Change.{Change}
use Rattle.state.specs.declared.Change.TheVariants.{Keep, Push, Pop, Replace}
use Rattle.state.specs.declared.Lexer.{Lexer}
use Rattle.state.specs.declared.State.{State}
use Rattle.state.specs.declared.Taken.{Taken}
use Rattle.lexer.specs.GetNextToken.{take_token, remaining_at}
use Rattle.lexer.specs.declared.Half.{Half}
use Rattle.lexer.specs.declared.Step.{Step}
use Rattle.lexer.specs.declared.What.{What}
use Rattle.lexer.specs.declared.What.TheVariants as what

-- modes at most
abbrev pub modes_most : ℕ
modes_most = 64

-- the change is a push, and no mode fits at this depth
abbrev pub is_full : Change → ℕ → Bool
is_full Keep depth = false
is_full (Push code) depth = ltb 63 depth
is_full Pop depth = false
is_full (Replace code) depth = false

-- an Error that advances nothing
unfoldable pub stood_still : Lexer → Taken → Bool
stood_still before t = eqb t.token.kind error && eqb t.lexer.place.current_byte.0 before.place.current_byte.0

abbrev pub what_of : Lexer → Taken → What
what_of before t = pick (stood_still before t) what.Stuck (what.Token t.token)

-- the lexer's half, from the token that was taken
abbrev pub half_of : Lexer → Taken → Half
half_of before t =
    pick (is_full t.change before.depth) (record { what = what.ModesFull; lexer = before; change = Keep })
    (record { what = what_of before t; lexer = remembered t.token.kind t.lexer; change = t.change })

abbrev pub half_at : (ℕ → ℕ) → ℕ → List ℕ → Lexer → Half
half_at look edition [] l = record { what = what.End; lexer = l; change = Keep }
half_at look edition (c ∷ cs) l = half_of l (take_token look edition (c ∷ cs) (settled l))

unfoldable pub half : (ℕ → ℕ) → ℕ → List ℕ → Lexer → Half
half look edition s l = half_at look edition (remaining_at s l.place.current_byte.0) l

-- both halves
abbrev pub joined : State → Half → Step
joined before h =
    record { what = h.what; state = changed_by h.change (record { lexer = h.lexer; modes = before.modes }) }

unfoldable pub step : (ℕ → ℕ) → ℕ → List ℕ → State → Step
step look edition s before = joined before (half look edition s before.lexer)
