-- The records of a reading with whether they stand still, as records at half the size have them (document 02, C-5): a record's start need not be
-- stored.
--     marks_length, marks_at    they are the reading's records
--     marks_last                only the last stands still, and only where the reading is stuck
--     stuck_error               that one is an Error
--     reading_starts            each starts where the one before it ends, and one that stands still where the one before it starts
-- Assumes nothing.
use Prim.Native.Nat.{ℕ, zero, suc, ◌+◌, ◌<◌}
use Rattle.std.proofs.Common.{arith, ◌∙◌}
use Rattle.std.specs.Prelude.{◌≡◌, Bool, true, List, [], ◌∷◌, length, get_or}
use Rattle.std.proofs.Math.Path.{refl, sym, ap, subst}
use Rattle.std.proofs.Math.Bool.{false}
use Rattle.base.specs.Pick.{pick}
use Rattle.position.specs.declared.Place.{Place}
use Rattle.property.specs.Table.{properties_at}
use Rattle.fitness.specs.Fit.{FitTable}
use Rattle.token.specs.Kind.{error}
use Rattle.token.specs.Token.{token_of}
use Rattle.rows.specs.declared.Row.{Row}
use Rattle.half_rows.specs.Half.{Marked, start_edge, end_edge, Starts}
use Rattle.half_rows.specs.declared.Edge.{Edge}
use Rattle.state.specs.declared.State.{State}
use Rattle.lexer.specs.Step.{step}
use Rattle.lexer.specs.declared.What.{What}
use Rattle.lexer.specs.declared.What.TheVariants as what
use Rattle.stepping.specs.Invariant.{Ok, measure}
use Rattle.stepping.specs.InvariantLaws.{step_ok}
use Rattle.stepping.specs.ReadsLaws.{token_reads, stuck_stays}
use Rattle.reading.specs.Reading.{Stop, ended, stuck, deep, Reading, row_of, after_step, read_in, read_from}
use Rattle.reading.specs.Scan.{stands_still, mark_all, marked_rows}
use Rattle.reading.specs.ShownLaws.{steps_some, still_last}

-- ---- some records

pub marks_length : (why : Stop) (rows : List Row) → length (mark_all why rows) ≡ length rows
unfolding mark_all
marks_length why [] = refl
marks_length why (r ∷ rows) = ap suc (marks_length why rows)

pub marks_at : (why : Stop) (rows : List Row) (i : ℕ) (d : Marked) → i < length rows → (get_or (mark_all why rows) i d).row ≡ get_or rows i d.row
unfolding mark_all
marks_at why [] i d h = absurd (omega arith)
marks_at why (r ∷ rows) zero d h = refl
marks_at why (r ∷ rows) (suc i) d h = marks_at why rows i d (omega arith)

still_is : (why : Stop) (rows : List Row) → stands_still why rows ≡ true → (why ≡ stuck) × (length rows ≡ 0)
still_is stuck [] e = (refl, refl)
still_is stuck (r ∷ rows) e = let z : ◌≡◌ {A = ℕ} 0 1 = cc in absurd (omega arith)
still_is ended rows e = let z : ◌≡◌ {A = ℕ} 0 1 = cc in absurd (omega arith)
still_is deep rows e = let z : ◌≡◌ {A = ℕ} 0 1 = cc in absurd (omega arith)

pub marks_last : (why : Stop) (rows : List Row) (i : ℕ) (d : Marked) → i < length rows → (get_or (mark_all why rows) i d).still ≡ true
    → (why ≡ stuck) × (i + 1 ≡ length rows)
unfolding mark_all
marks_last why [] i d h e = absurd (omega arith)
marks_last why (r ∷ rows) zero d h e = let s = still_is why rows e in (s.0, omega (arith, s.1))
marks_last why (r ∷ rows) (suc i) d h e = let s = marks_last why rows i d (omega arith) e in (s.0, omega (arith, s.1))

-- ---- of a reading

module _ (look : ℕ → ℕ) (edition : ℕ) (s : List ℕ) where
  after_error : (n : ℕ) (st : State) (w : What) (i : ℕ) (d : Row)
      → ((j : ℕ) → (read_in n look edition s (step look edition s st).state).stop ≡ stuck
      → j + 1 ≡ length (read_in n look edition s (step look edition s st).state).rows
      → (get_or (read_in n look edition s (step look edition s st).state).rows j d).kind ≡ error)
      → (after_step (read_in n look edition s) st.lexer (step look edition s st).state w).stop ≡ stuck
      → i + 1 ≡ length (after_step (read_in n look edition s) st.lexer (step look edition s st).state w).rows
      → (get_or (after_step (read_in n look edition s) st.lexer (step look edition s st).state w).rows i d).kind ≡ error
  after_error n st (what.Token u) zero d ih e h = absurd (omega (arith, steps_some n look edition s (step look edition s st).state e))
  after_error n st (what.Token u) (suc i) d ih e h = ih i e (omega arith)
  after_error n st what.Stuck zero d ih e h = refl
  after_error n st what.Stuck (suc i) d ih e h = absurd (omega arith)
  after_error n st what.ModesFull i d ih e h = let z : ◌≡◌ {A = ℕ} 0 1 = cc in absurd (omega arith)
  after_error n st what.End i d ih e h = let z : ◌≡◌ {A = ℕ} 0 1 = cc in absurd (omega arith)

  steps_error : (n : ℕ) (st : State) (i : ℕ) (d : Row) → (read_in n look edition s st).stop ≡ stuck → i + 1 ≡ length (read_in n look edition s st).rows
      → (get_or (read_in n look edition s st).rows i d).kind ≡ error
  unfolding read_in
  steps_error zero st i d e h = absurd (omega arith)
  steps_error (suc n) st i d e h =
      after_error n st (step look edition s st).what i d (λ j. steps_error n (step look edition s st).state j d) e h

  pub stuck_error : (st : State) (i : ℕ) (d : Row) → (read_from look edition s st).stop ≡ stuck → i + 1 ≡ length (read_from look edition s st).rows
      → (get_or (read_from look edition s st).rows i d).kind ≡ error
  unfolding read_from
  stuck_error st = steps_error (suc (measure s st)) st

-- where what a state has read last starts and ends
abbrev pub start_of : State → Edge
start_of st = start_edge (row_of (token_of error) st.lexer st.lexer)

abbrev pub end_of : State → Edge
end_of st = end_edge (row_of (token_of error) st.lexer st.lexer)

module _ (s table : List ℕ) (edition : ℕ) (fit : FitTable table) where
  abbrev next : State → State
  next st = (step (properties_at table) edition s st).state

  after_starts : (n : ℕ) (st : State) → Ok s st → (w : What) → (step (properties_at table) edition s st).what ≡ w
      → Starts (start_of (next st)) (end_of (next st)) (marked_rows (read_in n (properties_at table) edition s (next st)))
      → Starts (start_of st) (end_of st) (marked_rows (after_step (read_in n (properties_at table) edition s) st.lexer (next st) w))
  unfolding mark_all Starts
  after_starts n st ok (what.Token u) e ih =
      let rest = read_in n (properties_at table) edition s (next st) in
      let j = (token_reads s table edition fit st ok u e).joins in
      let from : start_of (next st) ≡ end_of st = λ i. record { byte = (j.bytes i).0; line = (j.span i).line; column = (j.span i).column.0 } in
      let moves : stands_still rest.stop rest.rows ≡ false =
      still_last rest.stop rest.rows (steps_some n (properties_at table) edition s (next st)) in
      (from ∙ sym (ap (λ (t : Bool). pick t (start_of st) (end_of st)) moves), subst (λ (x : Edge). Starts x (end_of (next st)) (marked_rows rest)) from ih)
  after_starts n st ok what.Stuck e ih =
      let stays : (next st).lexer.place ≡ st.lexer.place = stuck_stays s table edition fit st ok e in (
        ap (λ (p : Place). record { byte = p.previous_byte.0; line = p.span.start.line; column = p.span.start.column.0 }) stays,
        tt,
      )
  after_starts n st ok what.ModesFull e ih = tt
  after_starts n st ok what.End e ih = tt

  steps_start : (n : ℕ) (st : State) → Ok s st → Starts (start_of st) (end_of st) (marked_rows (read_in n (properties_at table) edition s st))
  unfolding read_in mark_all Starts
  steps_start zero st ok = tt
  steps_start (suc n) st ok =
      after_starts n st ok (step (properties_at table) edition s st).what refl (steps_start n (next st) (step_ok s table edition fit st ok))

  pub reading_starts : (st : State) → Ok s st → Starts (start_of st) (end_of st) (marked_rows (read_from (properties_at table) edition s st))
  unfolding read_from
  reading_starts st = steps_start (suc (measure s st)) st
