-- Both halves of a step together are the Rust's stack and step, arm by arm the same `take_token`.
--     length_codes     a stack has as many modes as its depth; length_rest: one less is left below the top
--     change_same      a change of the modes leaves place, indent and previous token
--     step_follows     where characters are left, the step mirrors the Rust's; step_ends: where none are, it is the end
-- Assumes nothing.
use Rattle.std.specs.Prelude.{ℕ, zero, suc, ◌<◌, ◌≤◌, ◌≡◌, refl, true, false, length}
use Rattle.std.proofs.Common.{arith, sym, ap, ◌∙◌, ltb-true, ltb-false}
use Rattle.std.proofs.Math.Path.{subst}
use mathlib.Core.List.{List, [], ◌∷◌}
use Rattle.base.specs.PickLaws.{by_test, by_lt, by_eq}
use Rattle.state.specs.Lexer.{settled, remembered}
use Rattle.state.specs.State.{changed_by, Fits}
use Rattle.state.specs.Stack.{rest, changed, codes_of, stack_of, Agrees}
use Rattle.state.specs.StackLaws.{change_is}
use Rattle.state.specs.declared.Change.{Change}
use Rattle.state.specs.declared.Change.TheVariants.{Keep, Push, Pop, Replace}
use Rattle.state.specs.declared.State.{State}
use Rattle.state.specs.declared.Taken.{Taken}
use Rattle.lexer.specs.GetNextToken.{take_token, remaining_at}
use Rattle.lexer.specs.Step.{is_full, half_of, half_at, half, joined, step}
use Rattle.lexer.specs.Keeps.{Keeps}
use Rattle.lexer.specs.KeepsLaws.{take_keeps}
use Rattle.lexer.specs.ArmLaws.{change_fits}
use Rattle.lexer.specs.declared.Half.{Half}
use Rattle.lexer.specs.declared.What.TheVariants as what
use Rattle.stepping.specs.Mirrors.{Same, Follows}

pub length_codes : (codes : List ℕ) (d : ℕ) → length (codes_of codes d) ≡ d
unfolding codes_of
length_codes codes zero = refl
length_codes codes (suc d) = ap suc (length_codes codes d)

pub length_rest : (ms : List ℕ) → length (rest ms) ≤ length ms
unfolding rest
length_rest [] = omega arith
length_rest (m ∷ ms) = omega arith

-- a push on a full stack leaves too many modes, and no other change does
too_many : (c : Change) (ms : List ℕ) → length ms ≤ 64 → is_full c (length ms) ≡ true → 64 < length (changed c ms)
too_many Keep ms h e = absurd (let z : ◌≡◌ {A = ℕ} 0 1 = cc in omega arith)
too_many (Push m) ms h e = omega (arith, ltb-true 63 (length ms) e)
too_many Pop ms h e = absurd (let z : ◌≡◌ {A = ℕ} 0 1 = cc in omega arith)
too_many (Replace m) ms h e = absurd (let z : ◌≡◌ {A = ℕ} 0 1 = cc in omega arith)

replaced_few : (m : ℕ) (ms : List ℕ) → length ms ≤ 64 → length (changed (Replace m) ms) ≤ 64
unfolding rest
replaced_few m [] h = omega arith
replaced_few m (x ∷ ms) h = h

few_enough : (c : Change) (ms : List ℕ) → length ms ≤ 64 → is_full c (length ms) ≡ false → length (changed c ms) ≤ 64
few_enough Keep ms h e = h
few_enough (Push m) ms h e = omega (arith, ltb-false 63 (length ms) e)
few_enough Pop ms h e = omega (arith, length_rest ms)
few_enough (Replace m) ms h e = replaced_few m ms h

-- a change of the modes leaves place, indent and previous token
pub change_same : (c : Change) (st : State) → Same (changed_by c st).lexer st.lexer
change_same Keep st = record { place = refl; indent = refl; previous = refl }
change_same (Push m) st = record { place = refl; indent = refl; previous = refl }
change_same Pop st =
    by_lt (λ (x : State). Same x.lexer st.lexer) st.modes.depth 2 (λ _. record { place = refl; indent = refl; previous = refl })
    (λ _. record { place = refl; indent = refl; previous = refl })
change_same (Replace m) st =
    by_eq (λ (x : State). Same x.lexer st.lexer) st.modes.depth 0 (λ _. record { place = refl; indent = refl; previous = refl })
    (λ _. record { place = refl; indent = refl; previous = refl })

module _ (st : State) (a : Agrees st) where
  height : length (stack_of st.modes) ≡ st.lexer.depth
  height = length_codes st.modes.codes st.modes.depth ∙ sym a.depth

  -- the half of a token that was taken mirrors the Rust's
  taken_follows : (t : Taken) → Keeps (settled st.lexer) t → Follows st t (joined st (half_of st.lexer t))
  taken_follows t k =
      by_test (λ (x : Half). Follows st t (joined st x)) (is_full t.change st.lexer.depth)
      (λ e.
      let many = too_many t.change (stack_of st.modes) (omega (arith, height, a.most, a.depth)) (ap (is_full t.change) height ∙ e) in
      record { full = λ _. (refl, refl); found = λ h. absurd (omega arith); stack = λ h. absurd (omega arith); lexer = λ h. absurd (omega arith) })
      (λ e.
      let few = few_enough t.change (stack_of st.modes) (omega (arith, height, a.most, a.depth)) (ap (is_full t.change) height ∙ e) in
      let mid : State = record { lexer = remembered t.token.kind t.lexer; modes = st.modes } in
      let g : Agrees mid =
      record { size = a.size; most = a.most; depth = k.depth ∙ a.depth; mode = k.mode ∙ a.mode } in
      let f : Fits t.change mid = change_fits t.change mid a.most (ap (is_full t.change) (sym a.depth) ∙ e) in
      record {
        full = λ h. absurd (omega arith);
        found = λ _. refl;
        stack = λ _. change_is t.change mid g f;
        lexer = λ _. change_same t.change mid;
      })

  module _ (look : ℕ → ℕ) (edition : ℕ) (s : List ℕ) where
    -- the characters that are left
    abbrev left : List ℕ
    left = remaining_at s st.lexer.place.current_byte.0

    pub step_follows : (c : ℕ) (cs : List ℕ) → left ≡ c ∷ cs
        → Follows st (take_token look edition (c ∷ cs) (settled st.lexer)) (step look edition s st)
    unfolding step half
    step_follows c cs e =
        subst (λ (l : List ℕ). Follows st (take_token look edition (c ∷ cs) (settled st.lexer)) (joined st (half_at look edition l st.lexer)))
        (sym e)
        (taken_follows (take_token look edition (c ∷ cs) (settled st.lexer)) (take_keeps (settled st.lexer) look edition (c ∷ cs)))

    pub step_ends : left ≡ [] → ((step look edition s st).what ≡ what.End) × ((step look edition s st).state ≡ st)
    unfolding step half
    step_ends e = rw e (refl, refl)
