-- Laws of the read step.
--     fits_codes, step_codes      the half's lexer with the codes: there is room for the change, and it makes the step
--     step_agrees, step_stack     the copies of depth and top agree again, and the modes are changed as the stack is
-- Assumes nothing.
use Rattle.std.specs.Prelude.{ℕ, ◌≡◌, refl, List, [], ◌∷◌}
use Rattle.std.proofs.Common.{sym, subst, ◌∙◌}
use Rattle.std.proofs.Math.Path.{ap}
use Rattle.base.specs.PickLaws.{by_test}
use Rattle.state.specs.Lexer.{settled}
use Rattle.state.specs.State.{state_of, changed_by, Fits}
use Rattle.state.specs.Stack.{changed, stack_of, Agrees}
use Rattle.state.specs.StackLaws.{state_is, change_is, change_agrees}
use Rattle.state.specs.declared.Lexer.{Lexer}
use Rattle.state.specs.declared.State.{State}
use Rattle.state.specs.declared.Taken.{Taken}
use Rattle.lexer.specs.GetNextToken.{take_token, remaining_at}
use Rattle.lexer.specs.Step.{is_full, half_of, half_at, half, step}
use Rattle.lexer.specs.Keeps.{Keeps}
use Rattle.lexer.specs.KeepsLaws.{take_keeps}
use Rattle.lexer.specs.ArmLaws.{half_fits}
use Rattle.lexer.specs.declared.Half.{Half}

-- ---- the half keeps the copies of depth and top

record Copies (l : Lexer) (x : Half) : Type 0 where
  depth : x.lexer.depth ≡ l.depth
  mode : x.lexer.mode ≡ l.mode

of_copies : (l : Lexer) (t : Taken) → Keeps (settled l) t → Copies l (half_of l t)
of_copies l t k =
    by_test (Copies l) (is_full t.change l.depth) (λ _. record { depth = refl; mode = refl })
    (λ _. record { depth = k.depth; mode = k.mode })

at_copies : (look : ℕ → ℕ) (edition : ℕ) (cs : List ℕ) (l : Lexer) → Copies l (half_at look edition cs l)
at_copies look edition [] l = record { depth = refl; mode = refl }
at_copies look edition (c ∷ cs) l = of_copies l (take_token look edition (c ∷ cs) (settled l)) (take_keeps (settled l) look edition (c ∷ cs))

module _ (look : ℕ → ℕ) (edition : ℕ) (s : List ℕ) (st : State) (a : Agrees st) where
  copies : Copies st.lexer (half look edition s st.lexer)
  unfolding half
  copies = at_copies look edition (remaining_at s st.lexer.place.current_byte.0) st.lexer

  -- the state between the two halves
  abbrev between : State
  between = record { lexer = (half look edition s st.lexer).lexer; modes = st.modes }

  between_agrees : Agrees between
  between_agrees =
      record { size = a.size; most = a.most; depth = copies.depth ∙ a.depth; mode = copies.mode ∙ a.mode }

  fits : Fits (half look edition s st.lexer).change between
  fits = half_fits look edition s st.lexer between a.most a.depth

  -- the half keeps the depth, so its lexer and the codes are that state
  between_is : state_of (half look edition s st.lexer).lexer st.modes.codes ≡ between
  between_is = state_is between between_agrees

  -- the half as it was answered, its lexer with the codes
  module _ {h : Half} (e : h ≡ half look edition s st.lexer) where
    pub fits_codes : Fits h.change (state_of h.lexer st.modes.codes)
    fits_codes =
        subst (λ (x : Half). Fits x.change (state_of x.lexer st.modes.codes)) (sym e)
        (subst (Fits (half look edition s st.lexer).change) (sym between_is) fits)

    pub step_codes : {next : State} → next ≡ changed_by h.change (state_of h.lexer st.modes.codes)
        → record { what = h.what; state = next } ≡ step look edition s st
    unfolding step
    step_codes q =
        ap (λ (x : State). record { what = h.what; state = x }) q
        ∙ ap (λ (x : Half). record { what = x.what; state = changed_by x.change (state_of x.lexer st.modes.codes) }) e
        ∙ ap (λ (x : State). record { what = (half look edition s st.lexer).what; state = changed_by (half look edition s st.lexer).change x }) between_is

  pub step_agrees : Agrees (step look edition s st).state
  unfolding step
  step_agrees = change_agrees (half look edition s st.lexer).change between between_agrees fits

  pub step_stack : stack_of (step look edition s st).state.modes ≡ changed (half look edition s st.lexer).change (stack_of st.modes)
  unfolding step
  step_stack = change_is (half look edition s st.lexer).change between between_agrees fits
