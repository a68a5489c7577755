-- A loop that reads on, on plain values, whatever it does with the records: what holds at its head (`Head`), what a step leaves to read, and what
-- a turn owes.
--     row_same                          of the lexer after it, a record has the place and the indent alone
--     error_packs                       the record of an Error that stands still
--     begin_head                        the head of a loop that begins with the lexer and the codes of a state
--     found_by                          what the step found
--     left_is, left_token, left_stuck   what is left to read, by that
--     byte_after, byte_stays            where it leads
--     keeps_is, changes_is              the state after it, as the code comes by it
--     made, low, bounds, packs, last_packs    its record
--     falls, head_again                 once more
-- Assumes nothing.
use Rattle.std.specs.Prelude.{ℕ, ◌≤◌, ◌<◌, ◌≡◌, refl, List}
use Rattle.std.proofs.Common.{arith, sym, ap, subst, ◌∙◌}
use Rattle.base.specs.Refusal.{source_most}
use Rattle.position.specs.declared.Place.{Place}
use Rattle.property.specs.Table.{properties_at}
use Rattle.fitness.specs.Fit.{FitTable}
use Rattle.token.specs.Kind.{error}
use Rattle.rows.specs.First.{Packs, depth_most}
use Rattle.rows.specs.FirstLaws.{fits_packs}
use Rattle.token.specs.declared.Token.{Token}
use Rattle.rows.specs.declared.Row.{Row}
use Rattle.token.specs.Token.{token_of}
use Rattle.state.specs.Lexer.{reach_of, at_place, with_indent}
use Rattle.state.specs.State.{state_of, changed_by}
use Rattle.state.specs.StackLaws.{state_is}
use Rattle.state.specs.declared.Change.{Change}
use Rattle.state.specs.declared.Change.TheVariants.{Keep}
use Rattle.state.specs.declared.Lexer.{Lexer}
use Rattle.state.specs.declared.State.{State}
use Rattle.lexer.specs.Step.{half, step}
use Rattle.stepping.specs.Mirrors.{Same}
use Rattle.lexer.specs.StepLaws.{step_codes}
use Rattle.stepping.specs.MirrorsLaws.{change_same}
use Rattle.stepping.specs.Invariant.{Ok, measure}
use Rattle.stepping.specs.InvariantLaws.{step_ok}
use Rattle.stepping.specs.MeasureLaws.{step_falls}
use Rattle.stepping.specs.ReadsLaws.{token_reads, stuck_stays}
use Rattle.lexer.specs.declared.Half.{Half}
use Rattle.lexer.specs.declared.Step.{Step}
use Rattle.lexer.specs.declared.What.{What}
use Rattle.lexer.specs.declared.What.TheVariants as what
use Rattle.reading.specs.Reading.{row_of, stuck, Reading, onto, stuck_reading, stopped, after_step, read_from}
use Rattle.reading.specs.ReadingLaws.{reading_step}
use Rattle.reading.specs.ShownLaws.{depth_low, row_fits_lem}

-- of the lexer after it, a record has the place and the indent alone
pub row_same : (t : Token) (before l m : Lexer) → Same l m → row_of t before l ≡ row_of t before m
row_same t before l m e =
    ap (λ (p : Place). row_of t before (at_place p l)) e.place
    ∙ ap (λ (n : ℕ). row_of t before (with_indent n (at_place m.place l))) e.indent

pub error_packs : (before after : Lexer) {t : Token} {row : Row} → before.depth ≤ depth_most → t ≡ token_of error → row ≡ row_of t before after
    → Packs row
error_packs before after h e q =
    subst Packs (sym (q ∙ ap (λ (u : Token). row_of u before after) e))
    (fits_packs (row_of (token_of error) before after) (row_fits_lem (token_of error) before after h refl))

-- ---- the head

pub record Head (s table : List ℕ) (edition : ℕ) (st : State) : Type 0 where
  pub ok : Ok s st
  pub fit : FitTable table

-- it begins with the lexer and the codes of a state, which are the whole of it
pub begin_head : (s table : List ℕ) (edition : ℕ) (st : State) → Ok s st → FitTable table
    → Head s table edition (state_of st.lexer st.modes.codes)
begin_head s table edition st o f = record { ok = subst (Ok s) (sym (state_is st o.agrees)) o; fit = f }

module _ {s table : List ℕ} {edition : ℕ} {st : State} (g : Head s table edition st) where
  abbrev found : Half
  found = half (properties_at table) edition s st.lexer

  abbrev next : State
  next = (step (properties_at table) edition s st).state

  -- the state after the step, and the lexer's half of it
  same : Same next.lexer found.lexer
  unfolding step
  same = change_same found.change (record { lexer = found.lexer; modes = st.modes })

  -- what was found, by what the call answered
  pub found_by : {h : Half} {w : What} → h ≡ found → h.what ≡ w → found.what ≡ w
  found_by e q = ap (λ (x : Half). x.what) (sym e) ∙ q

  found_is : {w : What} → found.what ≡ w → (step (properties_at table) edition s st).what ≡ w
  unfolding step
  found_is e = e

  -- what is left to read, by what the step found
  pub left_is : (w : What) → found.what ≡ w
      → read_from (properties_at table) edition s st ≡ after_step (read_from (properties_at table) edition s) st.lexer next w
  left_is w e =
      reading_step s table edition g.fit st g.ok ∙ ap (after_step (read_from (properties_at table) edition s) st.lexer next) (found_is e)

  pub left_token : (u : Token) → found.what ≡ what.Token u → {x : State} → x ≡ next
      → read_from (properties_at table) edition s st ≡ onto (row_of u st.lexer found.lexer) (read_from (properties_at table) edition s x)
  left_token u e {x} q =
      left_is (what.Token u) e
      ∙ ap (λ (row : Row). onto row (read_from (properties_at table) edition s next)) (row_same u st.lexer next.lexer found.lexer same)
      ∙ ap (λ (y : State). onto (row_of u st.lexer found.lexer) (read_from (properties_at table) edition s y)) (sym q)

  pub left_stuck : found.what ≡ what.Stuck → read_from (properties_at table) edition s st ≡ stuck_reading st.lexer found.lexer
  left_stuck e =
      left_is what.Stuck e ∙ ap (λ (row : Row). onto row (stopped stuck)) (row_same (token_of error) st.lexer next.lexer found.lexer same)

  -- the byte after a token, and that of an Error that stands still
  pub byte_after : {x : State} → x ≡ next → (reach_of x.lexer).byte.0 ≡ (reach_of found.lexer).byte.0
  byte_after q = ap (λ (x : State). (reach_of x.lexer).byte.0) q ∙ ap (λ (p : Place). p.current_byte.0) same.place

  pub byte_stays : found.what ≡ what.Stuck → (reach_of found.lexer).byte.0 ≡ (reach_of st.lexer).byte.0
  byte_stays e =
      ap (λ (p : Place). p.current_byte.0) (sym same.place ∙ stuck_stays s table edition g.fit st g.ok (found_is e))

  -- the code's two ways to the state after the step
  pub changes_is : {h : Half} {x : State} → h ≡ found → x ≡ changed_by h.change (state_of h.lexer st.modes.codes) → x ≡ next
  changes_is e q = ap (λ (r : Step). r.state) (step_codes (properties_at table) edition s st g.ok.agrees e q)

  pub keeps_is : {h : Half} → h ≡ found → h.change ≡ Keep → state_of h.lexer st.modes.codes ≡ next
  keeps_is {h} e q = changes_is e (ap (λ (c : Change). changed_by c (state_of h.lexer st.modes.codes)) (sym q))

  -- the record that was made, by what the call answered
  pub made : (u : Token) {h : Half} {row : Row} → h ≡ found → row ≡ row_of u st.lexer h.lexer → row ≡ row_of u st.lexer found.lexer
  made u e q = q ∙ ap (λ (x : Half). row_of u st.lexer x.lexer) e

  -- there are at most 64 modes
  pub low : st.lexer.depth ≤ depth_most
  low = depth_low st g.ok.agrees

  -- that of an Error that stands still
  pub last_packs : {t : Token} {row : Row} → t ≡ token_of error → row ≡ row_of t st.lexer found.lexer → Packs row
  last_packs = error_packs st.lexer found.lexer low

  -- the bytes of a record have 32 bits
  pub bounds : (found.lexer.place.previous_byte.0 ≤ source_most) × (found.lexer.place.current_byte.0 ≤ source_most)
  bounds =
      subst (λ (p : Place). (p.previous_byte.0 ≤ source_most) × (p.current_byte.0 ≤ source_most)) same.place
      (let o = step_ok s table edition g.fit st g.ok in
      (omega (arith, o.behind, o.fine.inside, o.fine.small), omega (arith, o.fine.inside, o.fine.small)))

  -- the state after the step, once more at the head
  pub head_again : {x : State} → x ≡ next → Head s table edition x
  head_again q = subst (Head s table edition) (sym q) (record { ok = step_ok s table edition g.fit st g.ok; fit = g.fit })

  module _ (u : Token) (e : found.what ≡ what.Token u) where
    pub packs : {row : Row} → row ≡ row_of u st.lexer found.lexer → Packs row
    packs {row} q =
        subst Packs (sym q)
        (fits_packs (row_of u st.lexer found.lexer)
        (row_fits_lem u st.lexer found.lexer low (token_reads s table edition g.fit st g.ok u (found_is e)).shown))

    pub falls : {x : State} → x ≡ next → measure s x < measure s st
    falls q = subst (λ (x : State). measure s x < measure s st) (sym q) (step_falls s table edition g.fit st g.ok u (found_is e))
