-- The reading of a source is what the Rust's `TokenLexer` hands out.
--     next_is_lem, beside_is    beside a state of the code the machine takes the same token, and then stands beside the state after the step
--     reads_hands           from a state that is ok, the reading is what the machine hands out
--     reading_hands         from the start
--     stream_end, stream_stuck   so the rows and the status of a scan stand for the machine's stream
-- Assumes nothing.
use Prim.Native.Nat.{ℕ, zero, suc, ◌≤◌, ◌<◌}
use native.Mathlib.Omega.{arith}
use Rattle.std.proofs.Math.Path.{◌≡◌, refl, sym, ap}
use Rattle.std.proofs.Common.{subst, ◌∙◌}
use Rattle.std.specs.Prelude.{Bool, true, false, List, [], ◌∷◌, eqb, length, Some, None}
use Rattle.std.proofs.Math.Bool.{and-eq-true_iff}
use borrow.Author.Tests.{eqb-true, eq-eqb}
use Rattle.base.specs.PickLaws.{split_lt}
use Rattle.base.specs.Refusal.{source_most}
use Rattle.utf8.specs.Encode.{WellFormed}
use Rattle.property.specs.Table.{properties_at}
use Rattle.fitness.specs.Fit.{FitTable}
use Rattle.token.specs.Kind.{error}
use Rattle.token.specs.declared.Token.{Token}
use Rattle.rows.specs.declared.Row.{Row}
use Rattle.token.specs.Token.{token_of}
use Rattle.state.specs.Lexer.{settled, remembered}
use Rattle.state.specs.State.{start_state}
use Rattle.state.specs.Stack.{top, codes_of, stack_of, Agrees}
use Rattle.state.specs.declared.Lexer.{Lexer}
use Rattle.state.specs.declared.State.{State}
use Rattle.state.specs.declared.Taken.{Taken}
use Rattle.lexer.specs.GetNextToken.{take_token, remaining_at}
use Rattle.lexer.specs.Step.{step, modes_most, stood_still, what_of}
use Rattle.stepping.specs.Mirrors.{Same, Follows, modes_after}
use Rattle.stepping.specs.MirrorsLaws.{length_codes, step_follows, step_ends}
use Rattle.stepping.specs.Invariant.{Ok, measure}
use Rattle.stepping.specs.InvariantLaws.{step_ok, start_ok_lem}
use Rattle.stepping.specs.MeasureLaws.{step_falls}
use Rattle.lexer.specs.declared.What.{What}
use Rattle.lexer.specs.declared.What.TheVariants as what
use Rattle.reading.specs.Reading.{Reading, row_of, onto, stuck_reading, stopped, after_step, read_from, reading}
use Rattle.reading.specs.Reading as stop
use Rattle.reading.specs.ReadingLaws.{reading_step}
use Rattle.reading.specs.HeadLaws.{row_same}
use Rattle.cursor.specs.Cursor.{record_at}
use Rattle.cursor.specs.CursorLaws.{record_at_lem}
use Rattle.cursor.specs.declared.Status.TheVariants.{End, Stuck}
use Rattle.queue.specs.Queue.{get}
use Rattle.queue.specs.Calls.{Streams}
use Rattle.queue.specs.StreamLaws.{get_past}
use Rattle.rust.specs.TokenLexer.{TokenLexer, new_token_lexer, view_of, with_fields, Given, given, given_at, get_next_token, lexed_of, lexed, state_at, handed, stream_of, StandsStill}
use Rattle.rust.proofs.StillLaws.{some_is, still_again, still_token, for_ever, none_for_ever}
use Rattle.rust.specs.Hands.{Sticks, Overflows, Hands}
use Rattle.rust.proofs.DepthLaws.{change_near}

-- ---- the machine beside a state of the code

-- the machine has the lexer's fields, and its stack is the modes
pub record Beside (x : TokenLexer) (st : State) : Type 0 where
  pub view : view_of x ≡ st.lexer
  pub stack : x.string_mode_stack ≡ stack_of st.modes

module _ (look : ℕ → ℕ) (edition : ℕ) (s : List ℕ) (x : TokenLexer) (st : State) (b : Beside x st) where
  -- at the same byte
  here : x.current_byte.0 ≡ st.lexer.place.current_byte.0
  here = ap (λ (l : Lexer). l.place.current_byte.0) b.view

  left_is : (cs : List ℕ) → remaining_at s st.lexer.place.current_byte.0 ≡ cs → get_next_token look edition s x ≡ given_at look edition cs x
  left_is cs e = ap (λ (l : List ℕ). given_at look edition l x) (ap (remaining_at s) here ∙ e)

  pub next_is_lem : (c : ℕ) (cs : List ℕ) → remaining_at s st.lexer.place.current_byte.0 ≡ c ∷ cs
      → get_next_token look edition s x ≡ given (take_token look edition (c ∷ cs) (settled st.lexer)) (stack_of st.modes)
  next_is_lem c cs e =
      left_is (c ∷ cs) e
      ∙ ap (λ (l : Lexer). given (take_token look edition (c ∷ cs) (settled l)) x.string_mode_stack) b.view
      ∙ ap (given (take_token look edition (c ∷ cs) (settled st.lexer))) b.stack

lexer_is : (l m : Lexer) → l.place ≡ m.place → l.indent ≡ m.indent → l.previous_token ≡ m.previous_token → l.depth ≡ m.depth
    → l.mode ≡ m.mode → l ≡ m
lexer_is l m p n k d c = λ i. record { place = p i; indent = n i; previous_token = k i; depth = d i; mode = c i }

-- a state whose copies agree, after this token, is what the machine shows
pub beside_is : (st : State) → Agrees st → (t : Taken) (modes : List ℕ) → Same st.lexer (remembered t.token.kind t.lexer)
    → stack_of st.modes ≡ modes → Beside (with_fields t.lexer (Some t.token) modes) st
beside_is st a t modes q e =
    record {
      view = sym
          (lexer_is st.lexer (view_of (with_fields t.lexer (Some t.token) modes)) q.place q.indent q.previous
          (a.depth ∙ sym (length_codes st.modes.codes st.modes.depth) ∙ ap length e) (search (a.mode ∙ ap top e)));
      stack = sym e;
    }

-- ---- the four ways of a reading

-- the reasons to stop are three
abbrev why_of : stop.Stop → ℕ
why_of stop.ended = 0
why_of stop.stuck = 1
why_of stop.deep = 2

module _ (look : ℕ → ℕ) (edition : ℕ) (s : List ℕ) where
  abbrev next : TokenLexer → Given
  next x = get_next_token look edition s x

  abbrev height : TokenLexer → ℕ
  height x = length x.string_mode_stack

  module _ (x : TokenLexer) (h : height x ≤ modes_most) where
    room_none : (i : ℕ) → i ≤ 0 → height (state_at look edition s i x) ≤ modes_most
    unfolding state_at
    room_none zero k = h
    room_none (suc i) k = absurd (omega arith)

    ended_hands : (next x).token ≡ None → Hands look edition s (stopped stop.ended) x
    ended_hands e =
        record {
          each = λ i k. absurd (omega arith);
          goes = λ i k _. absurd (omega arith);
          room = λ i k. room_none i (omega arith);
          ended = λ _ i k. none_for_ever look edition s x e i;
          stuck = λ q. absurd (omega (arith, ap why_of q));
          deep = λ q. absurd (omega (arith, ap why_of q));
        }

    module _ (row : Row) (e : lexed look edition s x ≡ Some row) (full : height x ≡ modes_most) (over : height (next x).after ≡ suc modes_most) where
      overflows : Overflows look edition s 0 x
      unfolding state_at handed
      overflows = record { row = row; some_token = e; full = full; over = over }

      deep_hands : Hands look edition s (stopped stop.deep) x
      deep_hands =
          record {
            each = λ i j. absurd (omega arith);
            goes = λ i j _. absurd (omega arith);
            room = room_none;
            ended = λ q. absurd (omega (arith, ap why_of q));
            stuck = λ q. absurd (omega (arith, ap why_of q));
            deep = λ _. overflows;
          }

    module _ (t : StandsStill look edition s x) (k : height (next x).after ≤ modes_most) (b l : Lexer)
        (e : lexed look edition s x ≡ Some (row_of (token_of error) b l)) where
      same_row : (i : ℕ) → handed look edition s i x ≡ Some (row_of (token_of error) b l)
      same_row i = for_ever look edition s x (still_again look edition s x t) i ∙ e

      each_one : (i : ℕ) → i < 1 → handed look edition s i x ≡ get (stuck_reading b l).rows i
      unfolding get
      each_one zero j = same_row 0
      each_one (suc i) j = absurd (omega arith)

      room_one : (i : ℕ) → i ≤ 1 → height (state_at look edition s i x) ≤ modes_most
      unfolding state_at
      room_one zero j = h
      room_one (suc zero) j = k
      room_one (suc (suc i)) j = absurd (omega arith)

      sticks : Sticks look edition s (stuck_reading b l).rows x
      unfolding state_at get
      sticks = record { last = 0; size = refl; stands = t; for_ever = λ i _. search (same_row i) }

      stuck_hands : Hands look edition s (stuck_reading b l) x
      stuck_hands =
          record {
            each = each_one;
            goes = λ i j _. (refl, omega arith);
            room = room_one;
            ended = λ q. absurd (omega (arith, ap why_of q));
            stuck = λ _. sticks;
            deep = λ q. absurd (omega (arith, ap why_of q));
          }

    -- a token, and what is handed out after it
    module _ (row : Row) (r : Reading) (e : lexed look edition s x ≡ Some row) (moves : StandsStill look edition s x → ⊥)
        (on : Hands look edition s r (next x).after) where
      onto_each : (i : ℕ) → i < suc (length r.rows) → handed look edition s i x ≡ get (row ∷ r.rows) i
      unfolding handed state_at get
      onto_each zero j = e
      onto_each (suc i) j = on.each i (omega arith)

      onto_goes : (i : ℕ) → i < suc (length r.rows) → StandsStill look edition s (state_at look edition s i x)
          → (r.stop ≡ stop.stuck) × (suc i ≡ suc (length r.rows))
      unfolding state_at
      onto_goes zero j t = absurd (moves t)
      onto_goes (suc i) j t = let q = on.goes i (omega arith) t in (q.0, ap suc q.1)

      onto_room : (i : ℕ) → i ≤ suc (length r.rows) → height (state_at look edition s i x) ≤ modes_most
      unfolding state_at
      onto_room zero j = h
      onto_room (suc i) j = on.room i (omega arith)

      onto_ended : r.stop ≡ stop.ended → (i : ℕ) → suc (length r.rows) ≤ i → handed look edition s i x ≡ None
      unfolding handed state_at
      onto_ended q zero j = absurd (omega arith)
      onto_ended q (suc i) j = on.ended q i (omega arith)

      onto_for_ever : (k : Sticks look edition s r.rows (next x).after) → (i : ℕ) → suc k.last ≤ i
          → handed look edition s i x ≡ get (row ∷ r.rows) (suc k.last)
      unfolding handed state_at get
      onto_for_ever k zero j = absurd (omega arith)
      onto_for_ever k (suc i) j = k.for_ever i (omega arith)

      onto_sticks : Sticks look edition s r.rows (next x).after → Sticks look edition s (row ∷ r.rows) x
      unfolding state_at
      onto_sticks k = record { last = suc k.last; size = ap suc k.size; stands = k.stands; for_ever = onto_for_ever k }

      onto_deep : Overflows look edition s (length r.rows) (next x).after → Overflows look edition s (suc (length r.rows)) x
      unfolding handed state_at
      onto_deep k = record { row = k.row; some_token = k.some_token; full = k.full; over = k.over }

      onto_hands : Hands look edition s (onto row r) x
      onto_hands =
          record {
            each = onto_each;
            goes = onto_goes;
            room = onto_room;
            ended = onto_ended;
            stuck = λ q. onto_sticks (on.stuck q);
            deep = λ q. onto_deep (on.deep q);
          }

-- ---- the reading

module _ (s table : List ℕ) (edition : ℕ) (fit : FitTable table) where
  abbrev look : ℕ → ℕ
  look = properties_at table

  abbrev stepped : State → State
  stepped st = (step look edition s st).state

  abbrev read : State → Reading
  read st = read_from look edition s st

  -- a step, and what is handed out after it
  module _ (x : TokenLexer) (st : State) (b : Beside x st) (ok : Ok s st)
      (on : measure s (stepped st) < measure s st → (y : TokenLexer) → Beside y (stepped st) → Hands look edition s (read (stepped st)) y) where
    abbrev Goal : What → Type 0
    Goal w = Hands look edition s (after_step read st.lexer (stepped st) w) x

    low : length x.string_mode_stack ≤ modes_most
    low = omega (arith, ap length b.stack, length_codes st.modes.codes st.modes.depth, ok.agrees.most)

    -- this token is taken
    module _ (t : Taken) (e : get_next_token look edition s x ≡ given t (stack_of st.modes)) (f : Follows st t (step look edition s st)) where
      row_of_lem : (before : Lexer) → view_of x ≡ before → lexed look edition s x ≡ Some (row_of t.token before t.lexer)
      row_of_lem before q =
          ap (λ (g : Given). lexed_of x g.token g.after) e ∙ ap (λ (l : Lexer). Some (row_of t.token l t.lexer)) q

      answered : lexed look edition s x ≡ Some (row_of t.token st.lexer t.lexer)
      answered = row_of_lem st.lexer b.view

      taller : length (get_next_token look edition s x).after.string_mode_stack ≡ length (modes_after st t)
      taller = omega (arith, ap (λ (g : Given). length g.after.string_mode_stack) e)

      same_byte : (get_next_token look edition s x).after.current_byte.0 ≡ t.lexer.place.current_byte.0
      same_byte = ap (λ (g : Given). g.after.current_byte.0) e

      module _ (few : length (modes_after st t) ≤ modes_most) where
        row_is : (v : Token) → row_of v st.lexer (stepped st).lexer ≡ row_of v st.lexer t.lexer
        row_is v = row_same v st.lexer (stepped st).lexer (remembered t.token.kind t.lexer) (f.lexer few)

        after_beside : Beside (get_next_token look edition s x).after (stepped st)
        after_beside =
            subst (λ (g : Given). Beside g.after (stepped st)) (sym e)
            (beside_is (stepped st) (step_ok s table edition fit st ok).agrees t (modes_after st t) (f.lexer few) (f.stack few))

        stands : stood_still st.lexer t ≡ true → StandsStill look edition s x
        unfolding stood_still
        stands q =
            let both = (and-eq-true_iff (eqb t.token.kind error) _).0 q in
            record {
              token = t.token;
              answered = ap (λ (g : Given). g.token) e;
              kind = eqb-true _ _ both.0;
              byte = same_byte ∙ eqb-true _ _ both.1 ∙ sym (here look edition s x st b);
            }

        moves : stood_still st.lexer t ≡ false → StandsStill look edition s x → ⊥
        unfolding stood_still
        moves q h =
            let v : t.token ≡ h.token = some_is t.token h.token (sym (ap (λ (g : Given). g.token) e) ∙ h.answered) in
            let k = eq-eqb t.token.kind error (ap (λ (w : Token). w.kind) v ∙ h.kind) in
            let o = eq-eqb t.lexer.place.current_byte.0 st.lexer.place.current_byte.0
            (sym same_byte ∙ h.byte ∙ here look edition s x st b) in
            let z = (and-eq-true_iff (eqb t.token.kind error) (eqb t.lexer.place.current_byte.0 st.lexer.place.current_byte.0)).1 (k, o) in
            let y : ◌≡◌ {A = ℕ} 0 1 = cc in omega arith

        stuck_row : StandsStill look edition s x → lexed look edition s x ≡ Some (row_of (token_of error) st.lexer (stepped st).lexer)
        stuck_row h =
            let v : t.token ≡ token_of error =
            some_is t.token (token_of error) (sym (ap (λ (g : Given). g.token) e) ∙ still_token look edition s x h) in
            answered ∙ ap (λ (u : Token). Some (row_of u st.lexer t.lexer)) v ∙ ap Some (sym (row_is (token_of error)))

        found : (q : Bool) → stood_still st.lexer t ≡ q → Goal (what_of st.lexer t)
        found true q =
            let h = stands q in
            rw q (stuck_hands look edition s x low h (omega (arith, taller)) st.lexer (stepped st).lexer (stuck_row h))
        found false q =
            let w : (step look edition s st).what ≡ what.Token t.token = f.found few ∙ rw q refl in
            rw q
            (onto_hands look edition s x low (row_of t.token st.lexer (stepped st).lexer) (read (stepped st))
            (answered ∙ ap Some (sym (row_is t.token))) (moves q)
            (on (step_falls s table edition fit st ok t.token w) (get_next_token look edition s x).after after_beside))

      taken_hands : Goal (step look edition s st).what
      taken_hands =
          split_lt modes_most (length (modes_after st t))
          (λ h. let most : length (modes_after st t) ≤ suc (length x.string_mode_stack) =
          omega (arith, (change_near t.change (stack_of st.modes)).up, ap length b.stack) in
          subst Goal (sym (f.full h).0)
          (deep_hands look edition s x low (row_of t.token st.lexer t.lexer) answered (omega (arith, low)) (omega (arith, taller, low))))
          (λ h. subst Goal (sym (f.found h)) (found h (stood_still st.lexer t) refl))

    -- by the characters that are left
    left_hands : (cs : List ℕ) → remaining_at s st.lexer.place.current_byte.0 ≡ cs → Goal (step look edition s st).what
    left_hands [] e =
        subst Goal (sym (step_ends st ok.agrees look edition s e).0)
        (ended_hands look edition s x low (ap (λ (g : Given). g.token) (left_is look edition s x st b [] e)))
    left_hands (c ∷ cs) e =
        taken_hands (take_token look edition (c ∷ cs) (settled st.lexer)) (next_is_lem look edition s x st b c cs e)
        (step_follows st ok.agrees look edition s c cs e)

    step_hands : Hands look edition s (read st) x
    step_hands =
        subst (λ (r : Reading). Hands look edition s r x) (sym (reading_step s table edition fit st ok))
        (left_hands (remaining_at s st.lexer.place.current_byte.0) refl)

  in_hands : (n : ℕ) (x : TokenLexer) (st : State) → Beside x st → Ok s st → measure s st < n → Hands look edition s (read st) x
  in_hands zero x st b ok h = absurd (omega arith)
  in_hands (suc n) x st b ok h =
      step_hands x st b ok (λ less y c. in_hands n y (stepped st) c (step_ok s table edition fit st ok) (omega arith))

  pub reads_hands : (x : TokenLexer) (st : State) → Beside x st → Ok s st → Hands look edition s (read st) x
  reads_hands x st b ok = in_hands (suc (measure s st)) x st b ok (omega arith)

  start_beside : Beside new_token_lexer start_state
  unfolding codes_of top
  start_beside = record { view = refl; stack = refl }

  module _ (h : length s ≤ source_most) (w : WellFormed s) where
    pub reading_hands : Hands look edition s (reading look edition s) new_token_lexer
    reading_hands = reads_hands new_token_lexer start_state start_beside (start_ok_lem s h w)

    -- the rows and how they end stand for the stream
    pub stream_end : (reading look edition s).stop ≡ stop.ended → Streams (stream_of look edition s) (reading look edition s).rows End
    stream_end e i =
        let rows = (reading look edition s).rows in
        split_lt i (length rows)
        (λ k. reading_hands.each i k
        ∙ ap (get rows) (let q : i ≡ record_at (length rows) End i = omega (arith, record_at_lem (length rows) End i) in q))
        (λ k. reading_hands.ended e i k
        ∙ sym (get_past rows (record_at (length rows) End i) (omega (arith, record_at_lem (length rows) End i))))

    pub stream_stuck : (reading look edition s).stop ≡ stop.stuck → Streams (stream_of look edition s) (reading look edition s).rows Stuck
    stream_stuck e i =
        let rows = (reading look edition s).rows in
        let k = reading_hands.stuck e in
        split_lt i (length rows)
        (λ j. reading_hands.each i j
        ∙ ap (get rows) (let q : i ≡ record_at (length rows) Stuck i = omega (arith, k.size, record_at_lem (length rows) Stuck i) in q))
        (λ j. k.for_ever i (omega (arith, k.size))
        ∙ ap (get rows) (let q : k.last ≡ record_at (length rows) Stuck i = omega (arith, k.size, record_at_lem (length rows) Stuck i) in q))
