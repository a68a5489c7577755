-- The invariant holds at the start, and a step keeps it: `start_ok_lem`, `step_ok`.
-- Assumes nothing.
use Rattle.std.specs.Prelude.{ℕ, ◌+◌, ◌*◌, ◌-◌, ◌≤◌, ◌<◌, ◌≡◌, false, ◌⊎◌, List, length, get_or, drop}
use Rattle.std.proofs.Common.{arith, sym, ap, subst, ◌∙◌, inl, inr, get_or-set_other}
use Rattle.base.specs.PickLaws.{by_test, by_lt, by_eq, split_lt}
use Rattle.base.specs.Refusal.{source_most}
use Rattle.position.specs.Place as place
use Rattle.position.specs.declared.ByteOffset.{ByteOffset}
use Rattle.position.specs.declared.Place.{Place}
use Rattle.utf8.specs.Encode.{WellFormed}
use Rattle.utf8.specs.Read.{is_tail}
use Rattle.property.specs.Table.{properties_at}
use Rattle.fitness.specs.Fit.{FitTable}
use Rattle.state.specs.Modes.{raw_end, tag_of, delimiter_of}
use Rattle.state.specs.Lexer.{reach_of, settled, remembered}
use Rattle.state.specs.State.{start_state, changed_by, Fits}
use Rattle.state.specs.Stack.{Agrees}
use Rattle.state.specs.StackLaws.{top_codes, start_agrees, change_agrees}
use Rattle.state.specs.declared.Change.{Change}
use Rattle.state.specs.declared.Change.TheVariants.{Keep, Push, Pop, Replace}
use Rattle.state.specs.declared.Lexer.{Lexer}
use Rattle.state.specs.declared.State.{State}
use Rattle.state.specs.declared.Taken.{Taken}
use Rattle.strings.specs.Delimited.{Delimited}
use Rattle.lexer.specs.Step.{is_full, half_of, joined, step}
use Rattle.lexer.specs.Fine.{Fine}
use Rattle.stepping.specs.FineLaws.{Goes}
use Rattle.lexer.specs.Keeps.{Joins, Keeps}
use Rattle.stepping.specs.ChangeLaws.{Other, Allowed, take_changes}
use Rattle.lexer.specs.ArmLaws.{change_fits}
use Rattle.stepping.specs.MirrorsLaws.{change_same}
use Rattle.stepping.specs.Invariant.{Ok}
use Rattle.stepping.specs.CasesLaws.{by_half}
use Rattle.lexer.specs.declared.Half.{Half}

-- what is fine goes by the place alone
fine_same : (s : List ℕ) (l m : Lexer) → l.place ≡ m.place → Fine s m → Fine s l
fine_same s l m e f =
    record {
      small = f.small;
      inside = subst (λ (p : Place). (place.reach_of p).byte.0 ≤ length s) (sym e) f.inside;
      lines = subst (λ (p : Place). (place.reach_of p).position.line ≤ (place.reach_of p).byte.0) (sym e) f.lines;
      columns = subst (λ (p : Place). (place.reach_of p).position.column.0 ≤ 3 * (place.reach_of p).byte.0) (sym e) f.columns;
      whole = subst
          (λ (p : Place). is_tail (get_or s (place.reach_of p).byte.0 0) ≡ false → WellFormed (drop (place.reach_of p).byte.0 s))
          (sym e) f.whole;
    }

-- no RawEnd below the top
abbrev Below : State → Type 0
Below st = (k : ℕ) → k + 1 < st.modes.depth → tag_of (get_or st.modes.codes k 0) ≡ raw_end → ⊥

abbrev Marked : List ℕ → State → Type 0
Marked s st = tag_of st.lexer.mode ≡ raw_end → Delimited s (delimiter_of st.lexer.mode) (reach_of st.lexer).byte.0

-- a change of the modes that is allowed where the mode on top is that of `mid`
module _ (s : List ℕ) (mid : State) (a : Agrees mid) (b : Below mid) where
  -- where the top is not RawEnd, no code of the stack is
  none_at : Other mid.lexer.mode → (k : ℕ) → k < mid.modes.depth → tag_of (get_or mid.modes.codes k 0) ≡ raw_end → ⊥
  none_at n k h e =
      split_lt (k + 1) mid.modes.depth (λ m. b k m e)
      (λ m. let q : mid.modes.depth - 1 ≡ k = omega arith in
      n (ap tag_of (a.mode ∙ top_codes mid.modes.codes mid.modes.depth (omega arith) ∙ ap (λ (j : ℕ). get_or mid.modes.codes j 0) q) ∙ e))

  abbrev Keeps-ok : State → Type 0
  Keeps-ok st = Marked s st × Below st

  pushed_ok : (m : ℕ) → ((k : ℕ) → k < mid.modes.depth → tag_of (get_or mid.modes.codes k 0) ≡ raw_end → ⊥)
      → (tag_of m ≡ raw_end → Delimited s (delimiter_of m) (reach_of mid.lexer).byte.0) → Keeps-ok (changed_by (Push m) mid)
  pushed_ok m f g = (
    g,
    λ k h e. f k (omega arith)
        (ap tag_of (sym (get_or-set_other mid.modes.codes mid.modes.depth k m 0 (λ q. omega arith))) ∙ e),
  )

  changed_ok : (c : Change) → Allowed s mid.lexer.mode (reach_of mid.lexer).byte.0 c → Keeps-ok (changed_by c mid)
  changed_ok Keep n = (λ e. absurd (n e), b)
  changed_ok (Push m) n = pushed_ok m (none_at n.0) (λ e. absurd (n.1 e))
  changed_ok Pop n =
      by_lt Keeps-ok mid.modes.depth 2 (λ h. (λ e. absurd (omega arith), λ k i e. absurd (omega arith)))
      (λ h. (λ e. absurd (b (mid.modes.depth - 2) (omega arith) e), λ k i e. b k (omega arith) e))
  changed_ok (Replace m) n =
      by_eq Keeps-ok mid.modes.depth 0 (λ h. pushed_ok m (λ k i e. absurd (omega arith)) n)
      (λ h. (
        n,
        λ k i e. b k i
            (ap tag_of (sym (get_or-set_other mid.modes.codes (mid.modes.depth - 1) k m 0 (λ q. omega arith))) ∙ e),
      ))

-- ---- a step

module _ (s : List ℕ) (table : List ℕ) (edition : ℕ) (fit : FitTable table) (st : State) (ok : Ok s st) where
  abbrev l : Lexer
  l = st.lexer

  -- what was read last is behind the lexer again: it begins where that before it ended, or nothing moved
  behind_of : (t : Taken) → Keeps (settled l) t → Goes s (settled l) t → t.lexer.place.previous_byte.0 ≤ (reach_of t.lexer).byte.0
  behind_of t k g = go k.place
    where
      go : Joins (settled l) t.lexer ⊎ ((t.lexer.place ≡ l.place) × (t.token.kind ≡ 0))
          → t.lexer.place.previous_byte.0 ≤ (reach_of t.lexer).byte.0
      go (inl j) = omega (arith, ap (λ (b : ByteOffset). b.0) j.bytes, g.on)
      go (inr e) = subst (λ (p : Place). p.previous_byte.0 ≤ (place.reach_of p).byte.0) (sym e.0) ok.behind

  -- a token was taken: full, or the modes are changed
  taken_ok : (t : Taken) → Keeps (settled l) t → Goes s (settled l) t
      → Allowed s l.mode (reach_of t.lexer).byte.0 t.change → Ok s (joined st (half_of l t)).state
  taken_ok t k g n =
      by_test (λ (x : Half). Ok s (joined st x).state) (is_full t.change l.depth) (λ _. ok)
      (λ e.
      let mid : State = record { lexer = remembered t.token.kind t.lexer; modes = st.modes } in
      let a : Agrees mid =
      record {
        size = ok.agrees.size;
        most = ok.agrees.most;
        depth = k.depth ∙ ok.agrees.depth;
        mode = k.mode ∙ ok.agrees.mode;
      } in
      let f : Fits t.change mid = change_fits t.change mid ok.agrees.most (ap (is_full t.change) (sym ok.agrees.depth) ∙ e) in
      let c = changed_ok s mid a ok.below t.change (subst (λ (m : ℕ). Allowed s m (reach_of t.lexer).byte.0 t.change) (sym k.mode) n) in
      let p = change_same t.change mid in
      record {
        fine = fine_same s (changed_by t.change mid).lexer t.lexer p.place g.fine;
        behind = subst (λ (p : Place). p.previous_byte.0 ≤ (place.reach_of p).byte.0) (sym p.place) (behind_of t k g);
        agrees = change_agrees t.change mid a f;
        marked = c.0;
        below = c.1;
      })

  pub step_ok : Ok s (step (properties_at table) edition s st).state
  unfolding step
  step_ok =
      by_half s table edition fit st ok (λ (x : Half). Ok s (joined st x).state) (λ _. ok)
      (λ o _ k g _. taken_ok _ k g (take_changes s (settled l) (properties_at table) edition o))

pub start_ok_lem : (s : List ℕ) → length s ≤ source_most → WellFormed s → Ok s start_state
start_ok_lem s h w =
    record {
      fine = record { small = h; inside = omega arith; lines = omega arith; columns = omega arith; whole = λ _. w };
      behind = omega arith;
      agrees = start_agrees;
      marked = λ e. absurd (omega arith);
      below = λ k i e. absurd (omega arith);
    }
