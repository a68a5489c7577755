-- A step by its cases: nothing is left, or a token is taken, of which everything is known that was proved of tokens.
--     by_half       what holds in both cases holds of the lexer's half
--     is_token      a step found a token: it is the one that was taken, and did not stand still
--     is_stuck      a step stood still: an Error was taken that leaves the byte
--     still_is      an Error that leaves the place stands still
-- Assumes nothing.
use Rattle.std.specs.Prelude.{ℕ, ◌<◌, ◌≡◌, refl, Bool, true, false, List, eqb, length, get_or}
use Rattle.std.proofs.Common.{arith, sym, ap, subst, inl, inr, eq-eqb, eqb-true}
use Rattle.std.proofs.Math.Bool.{and-eq-true_iff}
use Rattle.base.specs.Pick.{pick}
use Rattle.base.specs.PickLaws.{split_lt}
use Rattle.position.specs.declared.Place.{Place}
use Rattle.utf8.specs.Read.{is_tail}
use Rattle.property.specs.Table.{properties_at}
use Rattle.fitness.specs.Fit.{FitTable}
use Rattle.token.specs.Kind.{error}
use Rattle.token.specs.declared.Token.{Token}
use Rattle.text.specs.Stands.{Stands, chars_from}
use Rattle.text.specs.FollowLaws.{here}
use Rattle.state.specs.Lexer.{reach_of, settled}
use Rattle.state.specs.declared.Change.TheVariants.{Keep}
use Rattle.state.specs.declared.Lexer.{Lexer}
use Rattle.state.specs.declared.State.{State}
use Rattle.state.specs.declared.Taken.{Taken}
use Rattle.lexer.specs.GetNextToken.{take_token}
use Rattle.lexer.specs.Step.{stood_still, half_of, half}
use Rattle.lexer.specs.Keeps.{Keeps}
use Rattle.lexer.specs.KeepsLaws.{take_keeps}
use Rattle.stepping.specs.FineLaws.{Goes, take_goes}
use Rattle.stepping.specs.FallsLaws.{Falls, take_falls}
use Rattle.lexer.specs.ArmLaws.{remaining_end, remaining_inside, half_none, half_some}
use Rattle.stepping.specs.Invariant.{Ok}
use Rattle.stepping.specs.Reads.{AtEnd}
use Rattle.lexer.specs.declared.Half.{Half}
use Rattle.lexer.specs.declared.What.TheVariants as what

-- ---- what was found

pub is_token : (b : Bool) (t u : Token) → pick b what.Stuck (what.Token t) ≡ what.Token u → (b ≡ false) × (t ≡ u)
is_token true t u e = absurd (let z : ◌≡◌ {A = ℕ} 0 1 = cc in omega arith)
is_token false t u e = (refl, cc)

pub is_stuck : (l : Lexer) (t : Taken) → pick (stood_still l t) what.Stuck (what.Token t.token) ≡ what.Stuck
    → (t.token.kind ≡ error) × ((reach_of t.lexer).byte.0 ≡ (reach_of l).byte.0)
unfolding stood_still
is_stuck l t e = go (stood_still l t) refl e
  where
    go : (b : Bool) → stood_still l t ≡ b → pick b what.Stuck (what.Token t.token) ≡ what.Stuck
        → (t.token.kind ≡ error) × ((reach_of t.lexer).byte.0 ≡ (reach_of l).byte.0)
    go true q e =
        let both = (and-eq-true_iff (eqb t.token.kind error) _).0 q in
        (eqb-true _ _ both.0, eqb-true _ _ both.1)
    go false q e = absurd (let z : ◌≡◌ {A = ℕ} 0 1 = cc in omega arith)

pub still_is : (l : Lexer) (t : Taken) → t.lexer.place ≡ l.place → t.token.kind ≡ error → stood_still l t ≡ true
unfolding stood_still
still_is l t p k =
    rw (eq-eqb t.token.kind error k, eq-eqb t.lexer.place.current_byte.0 l.place.current_byte.0 (ap (λ (x : Place). x.current_byte.0) p))

-- ---- the two cases

module _ (s table : List ℕ) (edition : ℕ) (fit : FitTable table) (st : State) (ok : Ok s st) where
  abbrev l : Lexer
  l = st.lexer

  abbrev look : ℕ → ℕ
  look = properties_at table

  -- the token that is taken where something is left
  abbrev taking : Taken
  taking = take_token look edition (chars_from s (reach_of l)) (settled l)

  pub by_half : (P : Half → Type 0) → (AtEnd s st → P (record { what = what.End; lexer = l; change = Keep }))
      → (Stands s (reach_of l) → (reach_of l).byte.0 < length s → Keeps (settled l) taking → Goes s (settled l) taking → Falls (settled l) taking
      → P (half_of l taking))
      → P (half look edition s l)
  by_half P none some = go (is_tail (get_or s (reach_of l).byte.0 0)) refl
    where
      go : (b : Bool) → is_tail (get_or s (reach_of l).byte.0 0) ≡ b → P (half look edition s l)
      go true e = subst P (sym (half_none look edition s l (remaining_inside s (reach_of l).byte.0 e))) (none (inr e))
      go false e =
          split_lt (reach_of l).byte.0 (length s)
          (λ h.
          let w = ok.fine.whole e in
          let o : Stands s (reach_of l) =
          record { small = ok.fine.small; inside = ok.fine.inside; well = w; lines = ok.fine.lines; columns = ok.fine.columns } in
          let c = here s (reach_of l).byte.0 w h in
          subst P (sym (half_some look edition s l e w h))
          (some o h (take_keeps (settled l) look edition (chars_from s (reach_of l))) (take_goes s (settled l) o h table edition fit ok.marked)
          (subst (λ (cs : List ℕ). Falls (settled l) (take_token look edition cs (settled l))) (sym c.at.step)
          (take_falls (settled l) look edition c.code _))))
          (λ h. subst P (sym (half_none look edition s l (remaining_end s (reach_of l).byte.0 h))) (none (inl (omega (arith, ok.fine.inside)))))
