-- A step that does not stand still falls in the measure: `step_falls`. It goes on by a byte, which outweighs a mode that is pushed; or it
-- pops a mode; or it turns RawStart into RawEnd.
-- Assumes nothing.
use Rattle.std.specs.Prelude.{ℕ, ◌+◌, ◌-◌, ◌≤◌, ◌<◌, refl, false, List, eqb, length, get_or}
use Rattle.std.proofs.Common.{arith, sym, ap, subst, eq-eqb, ne_eqb}
use Rattle.std.proofs.Math.Path.{◌≡◌}
use Rattle.base.specs.Pick.{pick}
use Rattle.base.specs.PickLaws.{by_test, by_lt, by_eq}
use Rattle.position.specs.declared.Place.{Place}
use Rattle.property.specs.Table.{properties_at}
use Rattle.fitness.specs.Fit.{FitTable}
use Rattle.token.specs.declared.Token.{Token}
use Rattle.text.specs.Stands.{Stands}
use Rattle.state.specs.Modes.{raw_start, raw_end, tag_of}
use Rattle.state.specs.Lexer.{reach_of, settled, remembered}
use Rattle.state.specs.State.{changed_by}
use Rattle.state.specs.StackLaws.{deep}
use Rattle.state.specs.declared.Change.{Change}
use Rattle.state.specs.declared.Change.TheVariants.{Keep, Push, Pop, Replace}
use Rattle.state.specs.declared.Lexer.{Lexer}
use Rattle.state.specs.declared.State.{State}
use Rattle.state.specs.declared.Taken.{Taken}
use Rattle.lexer.specs.Step.{is_full, stood_still, half_of, joined, step}
use Rattle.stepping.specs.FineLaws.{Goes}
use Rattle.stepping.specs.FallsLaws as falls
use Rattle.stepping.specs.FallsLaws.{Falls}
use Rattle.stepping.specs.MirrorsLaws.{change_same}
use Rattle.stepping.specs.Invariant.{Ok, measure}
use Rattle.stepping.specs.CasesLaws.{is_token, still_is, by_half}
use Rattle.lexer.specs.declared.Half.{Half}
use Rattle.lexer.specs.declared.What.TheVariants as what

-- 1 where RawStart is on top
abbrev rank : ℕ → ℕ
rank mode = pick (eqb (tag_of mode) raw_start) 1 0

rank_most : (mode : ℕ) → rank mode ≤ 1
rank_most mode = by_test (λ (n : ℕ). n ≤ 1) (eqb (tag_of mode) raw_start) (λ _. omega arith) (λ _. omega arith)

rank_start : (mode : ℕ) → tag_of mode ≡ raw_start → rank mode ≡ 1
rank_start mode e = rw (eq-eqb (tag_of mode) raw_start e)

rank_other : (mode : ℕ) → (tag_of mode ≡ raw_start → ⊥) → rank mode ≡ 0
rank_other mode n = rw (ne_eqb (tag_of mode) raw_start n)

-- a change adds at most one mode
change_depth : (c : Change) (mid : State) → (changed_by c mid).modes.depth ≤ mid.modes.depth + 1
change_depth Keep mid = omega arith
change_depth (Push m) mid = omega arith
change_depth Pop mid =
    by_lt (λ (x : State). x.modes.depth ≤ mid.modes.depth + 1) mid.modes.depth 2 (λ _. omega arith) (λ _. omega arith)
change_depth (Replace m) mid =
    by_eq (λ (x : State). x.modes.depth ≤ mid.modes.depth + 1) mid.modes.depth 0 (λ _. omega arith) (λ _. omega arith)

module _ (s : List ℕ) (st mid : State) (d : mid.modes.depth ≡ st.modes.depth) where
  abbrev Less : State → Type 0
  Less x = measure s x < measure s st

  on_less : (c : Change) → (reach_of st.lexer).byte.0 < (reach_of mid.lexer).byte.0 → (reach_of mid.lexer).byte.0 ≤ length s
      → Less (changed_by c mid)
  on_less c h k =
      let e : (reach_of (changed_by c mid).lexer).byte.0 ≡ (reach_of mid.lexer).byte.0 =
      ap (λ (p : Place). p.current_byte.0) (change_same c mid).place in
      omega (arith, change_depth c mid, rank_most (changed_by c mid).lexer.mode)

  module _ (h : (reach_of st.lexer).byte.0 ≤ (reach_of mid.lexer).byte.0) (k : 0 < st.modes.depth) where
    pop_less : Less (changed_by Pop mid)
    pop_less =
        by_lt Less mid.modes.depth 2 (λ _. omega arith)
        (λ _. omega (arith, rank_most (get_or mid.modes.codes (mid.modes.depth - 2) 0)))

    turn_less : (code : ℕ) → tag_of code ≡ raw_end → tag_of st.lexer.mode ≡ raw_start → Less (changed_by (Replace code) mid)
    turn_less code e f =
        by_eq Less mid.modes.depth 0 (λ z. absurd (omega arith))
        (λ _. omega (arith, rank_other code (λ q. omega arith), rank_start st.lexer.mode f))

module _ (s table : List ℕ) (edition : ℕ) (fit : FitTable table) (st : State) (ok : Ok s st) (u : Token) where
  abbrev l : Lexer
  l = st.lexer

  fell : (t : Taken) → Goes s (settled l) t → Falls (settled l) t → stood_still l t ≡ false
      → measure s (changed_by t.change (record { lexer = remembered t.token.kind t.lexer; modes = st.modes })) < measure s st
  fell t g (falls.On h) n =
      on_less s st (record { lexer = remembered t.token.kind t.lexer; modes = st.modes }) refl t.change h g.fine.inside
  fell t g (falls.Pops e m) n =
      subst (λ (c : Change). measure s (changed_by c (record { lexer = remembered t.token.kind t.lexer; modes = st.modes })) < measure s st) (sym e)
      (pop_less s st (record { lexer = remembered t.token.kind t.lexer; modes = st.modes }) refl g.on (deep st ok.agrees m))
  fell t g (falls.Turns code e f q) n =
      subst (λ (c : Change). measure s (changed_by c (record { lexer = remembered t.token.kind t.lexer; modes = st.modes })) < measure s st) (sym e)
      (turn_less s st (record { lexer = remembered t.token.kind t.lexer; modes = st.modes }) refl g.on
      (deep st ok.agrees (λ z. omega (arith, f, z))) code q f)
  fell t g (falls.Stands p k) n = absurd (let e = still_is l t p k in let z : ◌≡◌ {A = ℕ} 0 1 = cc in omega arith)

  abbrev Goal : Half → Type 0
  Goal x = (joined st x).what ≡ what.Token u → measure s (joined st x).state < measure s st

  taken_falls : (t : Taken) → Goes s (settled l) t → Falls (settled l) t → Goal (half_of l t)
  taken_falls t g f =
      by_test Goal (is_full t.change l.depth) (λ _ e. absurd (let z : ◌≡◌ {A = ℕ} 0 1 = cc in omega arith))
      (λ _ e. fell t g f (is_token (stood_still l t) t.token u e).0)

  pub step_falls : (step (properties_at table) edition s st).what ≡ what.Token u → measure s (step (properties_at table) edition s st).state < measure s st
  unfolding step
  step_falls =
      by_half s table edition fit st ok Goal (λ _ e. absurd (let z : ◌≡◌ {A = ℕ} 0 1 = cc in omega arith)) (λ _ _ _ g f. taken_falls _ g f)
