-- What is known of a step, from its token: `token_reads`, `stuck_stays`, `full_stays`, `end_stays`.
-- Assumes nothing.
use Rattle.std.specs.Prelude.{ℕ, ◌≤◌, ◌≡◌, refl, Bool, true, false, ◌⊎◌, List, get_or}
use Rattle.std.proofs.Common.{arith, sym, ap, subst, ◌∙◌, inl, inr}
use Rattle.base.specs.Pick.{pick}
use Rattle.base.specs.PickLaws.{by_test}
use Rattle.position.specs.declared.Place.{Place}
use Rattle.position.specs.Place as place
use Rattle.utf8.specs.Read.{is_tail}
use Rattle.property.specs.Table.{properties_at}
use Rattle.fitness.specs.Fit.{FitTable}
use Rattle.token.specs.Kind.{error}
use Rattle.token.specs.Detail.{fits}
use Rattle.token.specs.declared.Token.{Token}
use Rattle.state.specs.Lexer.{reach_of, settled, remembered}
use Rattle.state.specs.State.{changed_by}
use Rattle.state.specs.declared.Lexer.{Lexer}
use Rattle.state.specs.declared.State.{State}
use Rattle.state.specs.declared.Taken.{Taken}
use Rattle.lexer.specs.Step.{is_full, stood_still, what_of, half_of, joined, step}
use Rattle.lexer.specs.Fine.{Cuts}
use Rattle.lexer.specs.Keeps.{Joins, Keeps}
use Rattle.stepping.specs.FineLaws.{Goes}
use Rattle.stepping.specs.FallsLaws as falls
use Rattle.stepping.specs.FallsLaws.{Falls}
use Rattle.stepping.specs.MirrorsLaws.{change_same}
use Rattle.stepping.specs.Invariant.{Ok}
use Rattle.stepping.specs.Reads.{Reads, Stays, AtEnd}
use Rattle.stepping.specs.CasesLaws.{is_token, is_stuck, still_is, by_half}
use Rattle.lexer.specs.declared.Half.{Half}
use Rattle.lexer.specs.declared.What.{What}
use Rattle.lexer.specs.declared.What.TheVariants as what

module _ (s table : List ℕ) (edition : ℕ) (fit : FitTable table) (st : State) (ok : Ok s st) where
  abbrev l : Lexer
  l = st.lexer

  -- the state in which the modes are changed
  abbrev mid : Taken → State
  mid t = record { lexer = remembered t.token.kind t.lexer; modes = st.modes }

  at_taken : (P : What → State → Type 0) (t : Taken) → P what.ModesFull st → P (what_of l t) (changed_by t.change (mid t))
      → P (joined st (half_of l t)).what (joined st (half_of l t)).state
  at_taken P t full some =
      by_test (λ (x : Half). P (joined st x).what (joined st x).state) (is_full t.change l.depth) (λ _. full) (λ _. some)

  -- what holds where nothing is left, where a mode has no room, and where a token is taken, holds of the step
  by_step : (P : What → State → Type 0) → (AtEnd s st → P what.End st) → P what.ModesFull st
      → ((t : Taken) → Keeps (settled l) t → Goes s (settled l) t → Falls (settled l) t → P (what_of l t) (changed_by t.change (mid t)))
      → P (step (properties_at table) edition s st).what (step (properties_at table) edition s st).state
  unfolding step
  by_step P none full some =
      by_half s table edition fit st ok (λ (x : Half). P (joined st x).what (joined st x).state) none
      (λ _ _ k g f. at_taken P _ full (some _ k g f))

  -- ---- a token

  -- it did not stand still, so it joins what was read before
  joined_on : (t : Taken) → Joins (settled l) t.lexer ⊎ ((t.lexer.place ≡ l.place) × (t.token.kind ≡ error)) → stood_still l t ≡ false
      → Joins l t.lexer
  joined_on t (inl j) n = record { bytes = j.bytes; span = j.span }
  joined_on t (inr e) n = absurd (let q = still_is l t e.0 e.1 in let z : ◌≡◌ {A = ℕ} 0 1 = cc in omega arith)

  taken_reads : (u : Token) (t : Taken) → Keeps (settled l) t → Goes s (settled l) t → what_of l t ≡ what.Token u
      → Reads s st u (changed_by t.change (mid t))
  taken_reads u t k g e =
      let q = is_token (stood_still l t) t.token u e in
      let p = change_same t.change (mid t) in
      let j = joined_on t k.place q.0 in
      record {
        joins = record {
          bytes = ap (λ (x : Place). x.previous_byte) p.place ∙ j.bytes;
          span = ap (λ (x : Place). x.span.start) p.place ∙ j.span;
        };
        on = subst (λ (x : Place). (reach_of l).byte.0 ≤ (place.reach_of x).byte.0) (sym p.place) g.on;
        shown = subst (λ (v : Token). fits v.kind v.detail ≡ true) q.1 k.fits_record;
        last = p.previous ∙ ap (λ (v : Token). v.kind) q.1;
        cut = subst
            (λ (x : Place). is_tail (get_or s (place.reach_of x).byte.0 0) ≡ true → Cuts s (reach_of l).byte.0 u.kind (place.reach_of x).byte.0)
            (sym p.place)
            (λ c. subst (λ (v : Token). Cuts s (reach_of l).byte.0 v.kind (reach_of t.lexer).byte.0) q.1 (g.cut c));
      }

  pub token_reads : (u : Token) → (step (properties_at table) edition s st).what ≡ what.Token u
      → Reads s st u (step (properties_at table) edition s st).state
  token_reads u =
      by_step (λ w x. w ≡ what.Token u → Reads s st u x) (λ _ e. absurd (let z : ◌≡◌ {A = ℕ} 0 1 = cc in omega arith))
      (λ e. absurd (let z : ◌≡◌ {A = ℕ} 0 1 = cc in omega arith)) (λ t k g f e. taken_reads u t k g e)

  -- ---- an Error that stood still

  same_place : (t : Taken) → Keeps (settled l) t → Falls (settled l) t → what_of l t ≡ what.Stuck → t.lexer.place ≡ l.place
  same_place t k (falls.On h) e = absurd (omega (arith, (is_stuck l t e).1))
  same_place t k (falls.Pops c m) e =
      absurd (let q = k.error_keeps (is_stuck l t e).0 in let z : ◌≡◌ {A = ℕ} 0 1 = cc in omega arith)
  same_place t k (falls.Turns code c m n) e =
      absurd (let q = k.error_keeps (is_stuck l t e).0 in let z : ◌≡◌ {A = ℕ} 0 1 = cc in omega arith)
  same_place t k (falls.Stands p q) e = p

  pub stuck_stays : (step (properties_at table) edition s st).what ≡ what.Stuck → Stays st (step (properties_at table) edition s st).state
  stuck_stays =
      by_step (λ w x. w ≡ what.Stuck → Stays st x) (λ _ e. absurd (let z : ◌≡◌ {A = ℕ} 0 1 = cc in omega arith))
      (λ e. absurd (let z : ◌≡◌ {A = ℕ} 0 1 = cc in omega arith))
      (λ t k g f e. (change_same t.change (mid t)).place ∙ same_place t k f e)

  -- ---- no room, and the end

  found_other : (b : Bool) (t : Token) (w : What) → (what.Stuck ≡ w → ⊥) → (what.Token t ≡ w → ⊥) → pick b what.Stuck (what.Token t) ≡ w → ⊥
  found_other true t w m n e = m e
  found_other false t w m n e = n e

  pub full_stays : (step (properties_at table) edition s st).what ≡ what.ModesFull → (step (properties_at table) edition s st).state ≡ st
  full_stays =
      by_step (λ w x. w ≡ what.ModesFull → x ≡ st) (λ _ e. absurd (let z : ◌≡◌ {A = ℕ} 0 1 = cc in omega arith)) (λ _. refl)
      (λ t k g f e. absurd
      (found_other (stood_still l t) t.token what.ModesFull (λ q. let z : ◌≡◌ {A = ℕ} 0 1 = cc in omega arith)
      (λ q. let z : ◌≡◌ {A = ℕ} 0 1 = cc in omega arith) e))

  pub end_stays : (step (properties_at table) edition s st).what ≡ what.End → AtEnd s st × ((step (properties_at table) edition s st).state ≡ st)
  end_stays =
      by_step (λ w x. w ≡ what.End → AtEnd s st × (x ≡ st)) (λ a _. (a, refl)) (λ e. absurd (let z : ◌≡◌ {A = ℕ} 0 1 = cc in omega arith))
      (λ t k g f e. absurd
      (found_other (stood_still l t) t.token what.End (λ q. let z : ◌≡◌ {A = ℕ} 0 1 = cc in omega arith)
      (λ q. let z : ◌≡◌ {A = ℕ} 0 1 = cc in omega arith) e))
