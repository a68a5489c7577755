-- C-7: a NewLine changes no mode, so the depth behind it is the depth before it: `newline_depth`.
-- Assumes nothing.
use Rattle.std.specs.Prelude.{ℕ, ◌≡◌, refl, List, [], ◌∷◌}
use Rattle.std.proofs.Common.{ap, ◌∙◌}
use Rattle.base.specs.PickLaws.{by_test}
use Rattle.token.specs.Kind.{new_line}
use Rattle.token.specs.declared.Token.{Token}
use Rattle.state.specs.Lexer.{settled}
use Rattle.state.specs.State.{changed_by}
use Rattle.state.specs.declared.Change.{Change}
use Rattle.state.specs.declared.Change.TheVariants.{Keep}
use Rattle.state.specs.declared.Lexer.{Lexer}
use Rattle.state.specs.declared.State.{State}
use Rattle.state.specs.declared.Taken.{Taken}
use Rattle.lexer.specs.GetNextToken.{take_token, remaining_at}
use Rattle.lexer.specs.Step.{is_full, stood_still, half_of, half_at, half, step}
use Rattle.lexer.specs.declared.Half.{Half}
use Rattle.lexer.specs.declared.What.TheVariants as what
use Rattle.moves.specs.MovesLaws.{take_moves, newline_keeps}
use Rattle.stepping.specs.CasesLaws.{is_token}

-- a half that finds a NewLine keeps the modes
abbrev Quiet : Half → Type 0
Quiet h = (u : Token) → h.what ≡ what.Token u → u.kind ≡ new_line → h.change ≡ Keep

of_quiet : (l : Lexer) (t : Taken) → (t.token.kind ≡ new_line → t.change ≡ Keep) → Quiet (half_of l t)
of_quiet l t k =
    by_test Quiet (is_full t.change l.depth) (λ _ u e n. refl)
    (λ _ u e n. k (ap (λ (x : Token). x.kind) (is_token (stood_still l t) t.token u e).1 ∙ n))

at_quiet : (look : ℕ → ℕ) (edition : ℕ) (cs : List ℕ) (l : Lexer) → Quiet (half_at look edition cs l)
at_quiet look edition [] l = λ u e n. refl
at_quiet look edition (c ∷ cs) l =
    let t = take_token look edition (c ∷ cs) (settled l) in
    of_quiet l t (newline_keeps l.mode t.token t.change (take_moves (settled l) look edition (c ∷ cs)))

pub newline_depth : (look : ℕ → ℕ) (edition : ℕ) (s : List ℕ) (st : State) (u : Token) → (step look edition s st).what ≡ what.Token u
    → u.kind ≡ new_line → (step look edition s st).state.modes.depth ≡ st.modes.depth
unfolding step half
newline_depth look edition s st u e n =
    let h = half look edition s st.lexer in
    let k : h.change ≡ Keep = at_quiet look edition (remaining_at s st.lexer.place.current_byte.0) st.lexer u e n in
    ap (λ (c : Change). (changed_by c (record { lexer = h.lexer; modes = st.modes })).modes.depth) k
