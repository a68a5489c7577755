-- The loop that compares as it reads, on plain values: what holds at its head (`Comparing`), and what each way out and each turn owes. What is
-- answered from here is what is answered from the start.
--     after_below                  where the records first differ is never past those that were read
--     begins                       into the loop
--     at_end, at_stuck, at_modes   the ways out
--     again                        a turn
-- and of the whole check:
--     is_refused, is_short, is_compared    its answer, where it is given
-- Assumes nothing.
use Rattle.std.specs.Prelude as result
use Rattle.std.specs.Prelude.{ℕ, ◌+◌, ◌*◌, ◌≤◌, ◌<◌, ◌≡◌, refl, Bool, true, false, List, [], ◌∷◌, ltb, leb, Err}
use Rattle.std.proofs.Common.{add-zero, ap, subst, ◌∙◌}
use native.Mathlib.Omega.{arith}
use Rattle.std.proofs.Math.Path.{sym}
use Rattle.std.proofs.Math.ListN.{length}
use borrow.Author.Tests.{lt-ltb, le-ltb, le-leb, lt-leb}
use Rattle.base.specs.Pick.{pick}
use Rattle.base.specs.PickLaws.{by_lt, by_test, split_lt}
use Rattle.base.specs.Refusal.{source_most}
use Rattle.utf8.specs.Encode.{WellFormed}
use Rattle.property.specs.Table.{properties_at}
use Rattle.fitness.specs.Fit.{FitTable}
use Rattle.input.specs.Input.{input_check}
use Rattle.input.specs.declared.Refusal.{Refusal}
use Rattle.token.specs.Kind.{error}
use Rattle.token.specs.Token.{token_of}
use Rattle.token.specs.declared.Token.{Token}
use Rattle.rows.specs.Row.{room}
use Rattle.held.specs.Held.{is_row}
use Rattle.rows.specs.declared.Row.{Row}
use Rattle.state.specs.Lexer.{reach_of}
use Rattle.state.specs.State.{start_state, state_of}
use Rattle.state.specs.StackLaws.{state_is}
use Rattle.state.specs.declared.State.{State}
use Rattle.lexer.specs.Step.{half, step}
use Rattle.lexer.specs.declared.Half.{Half}
use Rattle.lexer.specs.declared.What.TheVariants as what
use Rattle.stepping.specs.Invariant.{Ok, measure}
use Rattle.stepping.specs.InvariantLaws.{start_ok_lem}
use Rattle.reading.specs.Reading.{row_of, stuck, Reading, onto, stopped, read_from}
use Rattle.reading.specs.Scan.{end_of, reading_of}
use Rattle.reading.specs.Status.{end_number, stuck_number}
use Rattle.reading.specs.HeadLaws.{Head, left_is, left_token, left_stuck, byte_after, head_again, falls}
use Rattle.foreign.specs.Check.{Checked, first_apart, apart_after, compared, by_stop, by_reading, list_checked}
use Rattle.foreign.specs.declared.Comparison.{Comparison}
use Rattle.foreign.specs.declared.CheckError.TheVariants.{Refused, BadState, ModesFull}

-- ---- where records first differ

module _ (list : List ℕ) (count : ℕ) where
  -- told of k records that were read, with `apart` told of them, and of these that are left
  abbrev apart_on : ℕ → ℕ → List Row → ℕ
  apart_on k apart rows = pick (ltb apart k) apart (first_apart list count k rows)

  on_none : (k apart : ℕ) → apart ≤ k → apart_on k apart [] ≡ apart
  unfolding first_apart
  on_none k apart h = by_lt (λ (i : ℕ). i ≡ apart) apart k (λ _. refl) (λ le. omega arith)

  pub after_below : (k apart : ℕ) (r : Row) → apart ≤ k → apart_after list count k apart r ≤ k + 1
  after_below k apart r h =
      by_lt (λ (i : ℕ). i ≤ k + 1) apart k (λ _. omega arith)
      (λ _. by_test (λ (i : ℕ). i ≤ k + 1) (leb count k) (λ _. omega arith)
      (λ _. by_test (λ (i : ℕ). i ≤ k + 1) (is_row list k r) (λ _. omega arith) (λ _. omega arith)))

  -- one record more was read
  on_row : (k apart : ℕ) (r : Row) (rows : List Row) → apart ≤ k → apart_on k apart (r ∷ rows) ≡ apart_on (k + 1) (apart_after list count k apart r) rows
  unfolding first_apart
  on_row k apart r rows h = split_lt apart k before now
    where
      -- one of those before it is another
      before : apart < k → apart_on k apart (r ∷ rows) ≡ apart_on (k + 1) (apart_after list count k apart r) rows
      before lt = rw (lt-ltb apart k lt, lt-ltb apart (k + 1) (omega arith))

      by_row : (t : Bool) → is_row list k r ≡ t → k < count
          → apart_on k k (r ∷ rows) ≡ apart_on (k + 1) (apart_after list count k k r) rows
      by_row true e lt = rw (le-ltb k k (omega arith), lt-ltb k count lt, lt-leb count k lt, e, le-ltb (k + 1) (k + 1) (omega arith))
      by_row false e lt = rw (le-ltb k k (omega arith), lt-ltb k count lt, lt-leb count k lt, e, lt-ltb k (k + 1) (omega arith))

      past : count ≤ k → apart_on k k (r ∷ rows) ≡ apart_on (k + 1) (apart_after list count k k r) rows
      past le = rw (le-ltb k k (omega arith), le-ltb k count le, le-leb count k le, lt-ltb k (k + 1) (omega arith))

      now : k ≤ apart → apart_on k apart (r ∷ rows) ≡ apart_on (k + 1) (apart_after list count k apart r) rows
      now le =
          let e : k ≡ apart = omega arith in
          subst (λ (i : ℕ). apart_on k i (r ∷ rows) ≡ apart_on (k + 1) (apart_after list count k i r) rows) e
          (split_lt k count (by_row (is_row list k r) refl) past)

  -- ---- the answer from here

  module _ (status : ℕ) where
    -- with k records read, `apart` told of them, the byte b, and this reading left
    abbrev answer_on : ℕ → ℕ → ℕ → Reading → Checked
    answer_on k apart b r = by_stop count status (k + length r.rows) (apart_on k apart r.rows) (end_of b r.rows) r.stop

    on_start : (r : Reading) → answer_on 0 0 0 r ≡ by_reading list count status r
    on_start r =
        let z : 0 + length r.rows ≡ length r.rows = omega arith in
        ap (λ (n : ℕ). by_stop count status n (first_apart list count 0 r.rows) (end_of 0 r.rows) r.stop) z

    on_turn : (k apart b : ℕ) (row : Row) (r : Reading) → apart ≤ k
        → answer_on k apart b (onto row r) ≡ answer_on (k + 1) (apart_after list count k apart row) row.end r
    unfolding end_of
    on_turn k apart b row r h =
        let n : k + length (row ∷ r.rows) ≡ k + 1 + length r.rows = omega arith in
        λ i. by_stop count status (n i) (on_row k apart row r.rows h i) (end_of row.end r.rows) r.stop

-- ---- the loop

pub record Comparing (s table : List ℕ) (edition : ℕ) (list : List ℕ) (count status : ℕ) (st : State) (k apart : ℕ) : Type 0 where
  pub head : Head s table edition st
  -- each turn falls in the measure, so that k stays small
  pub few : k + measure s st ≤ 4 * source_most + 1
  pub below : apart ≤ k
  pub rest : answer_on list count status k apart (reach_of st.lexer).byte.0 (read_from (properties_at table) edition s st)
      ≡ by_reading list count status (reading_of s table edition)

pub begins : (s table : List ℕ) (edition : ℕ) (list : List ℕ) (count status : ℕ) {st : State} → length s ≤ source_most → WellFormed s → FitTable table
    → st ≡ start_state → Comparing s table edition list count status (state_of st.lexer st.modes.codes) 0 0
begins s table edition list count status short well fit q =
    let o : Ok s start_state = start_ok_lem s short well in
    let e : state_of start_state.lexer start_state.modes.codes ≡ start_state = state_is start_state o.agrees in
    subst (λ (x : State). Comparing s table edition list count status (state_of x.lexer x.modes.codes) 0 0) (sym q)
    (subst (λ (x : State). Comparing s table edition list count status x 0 0) (sym e)
    (record { head = record { ok = o; fit = fit }; few = omega arith; below = omega arith; rest = on_start list count status (reading_of s table edition) }))

module _ {s table : List ℕ} {edition : ℕ} {list : List ℕ} {count status : ℕ} {st : State} {k apart : ℕ}
    (g : Comparing s table edition list count status st k apart) where
  abbrev found : Half
  found = half (properties_at table) edition s st.lexer

  abbrev next : State
  next = (step (properties_at table) edition s st).state

  abbrev byte : ℕ
  byte = (reach_of st.lexer).byte.0

  abbrev right : Checked
  right = by_reading list count status (reading_of s table edition)

  -- a way out, by what is left to read
  comes : {r : Reading} → read_from (properties_at table) edition s st ≡ r → answer_on list count status k apart byte r ≡ right
  comes e = ap (answer_on list count status k apart byte) (sym e) ∙ g.rest

  pub at_end : found.what ≡ what.End → {x : Comparison} → x ≡ compared count status k apart end_number → result.Ok x ≡ right
  at_end e q =
      ap (λ (c : Comparison). result.Ok c) q
      ∙ (λ i. result.Ok (compared count status (sym (add-zero k) i) (sym (on_none list count k apart g.below) i) end_number))
      ∙ comes (left_is g.head what.End e)

  pub at_modes : found.what ≡ what.ModesFull → result.Err (ModesFull byte) ≡ right
  unfolding end_of
  at_modes e = comes (left_is g.head what.ModesFull e)

  -- a record was made and compared
  module _ {row : Row} {after : ℕ} (a : after ≡ apart_after list count k apart row) where
    pub at_stuck : found.what ≡ what.Stuck → {t : Token} → t ≡ token_of error → row ≡ row_of t st.lexer found.lexer → {x : Comparison}
        → x ≡ compared count status (k + 1) after stuck_number → result.Ok x ≡ right
    at_stuck e p q w =
        let last : Row = row_of (token_of error) st.lexer found.lexer in
        let told : after ≡ apart_after list count k apart last =
        a ∙ ap (apart_after list count k apart) (q ∙ ap (λ (u : Token). row_of u st.lexer found.lexer) p) in
        let none : apart_on list count (k + 1) after [] ≡ after =
        on_none list count (k + 1) after (subst (λ (i : ℕ). i ≤ k + 1) (sym a) (after_below list count k apart row g.below)) in
        ap (λ (c : Comparison). result.Ok c) w
        ∙ (λ i. result.Ok (compared count status (sym (add-zero (k + 1)) i) (sym none i) stuck_number))
        ∙ ap (λ (j : ℕ). result.Ok (compared count status (k + 1 + 0) (apart_on list count (k + 1) j []) stuck_number)) told
        ∙ sym (on_turn list count status k apart byte last (stopped stuck) g.below)
        ∙ comes (left_stuck g.head e)

    pub again : (u : Token) → found.what ≡ what.Token u → row ≡ row_of u st.lexer found.lexer → {x : State} → x ≡ next
        → Comparing s table edition list count status x (k + 1) after
    again u e q {x} y =
        let told : after ≡ apart_after list count k apart (row_of u st.lexer found.lexer) = a ∙ ap (apart_after list count k apart) q in
        record {
          head = head_again g.head y;
          few = omega (arith, g.few, falls g.head u e y);
          below = subst (λ (i : ℕ). i ≤ k + 1) (sym a) (after_below list count k apart row g.below);
          rest = (λ i. answer_on list count status (k + 1) (told i) (byte_after g.head y i) (read_from (properties_at table) edition s x))
              ∙ sym (on_turn list count status k apart byte (row_of u st.lexer found.lexer) (read_from (properties_at table) edition s x) g.below)
              ∙ comes (left_token g.head u e y);
        }

-- ---- the whole check

module _ (source table : List ℕ) (edition : ℕ) (list : List ℕ) (count status : ℕ) where
  pub is_refused : {x : Refusal} → input_check source_most source table edition ≡ Err x
      → result.Err (Refused x) ≡ list_checked source table edition list count status
  unfolding list_checked
  is_refused e = sym (rw e)

  module _ (e : input_check source_most source table edition ≡ result.Ok tt) where
    pub is_short : room list < count → result.Err BadState ≡ list_checked source table edition list count status
    unfolding list_checked
    is_short h = sym (rw (e, lt-ltb (room list) count h))

    pub is_compared : count ≤ room list → {r : Checked} → r ≡ by_reading list count status (reading_of source table edition)
        → r ≡ list_checked source table edition list count status
    unfolding list_checked
    is_compared h q = q ∙ sym (rw (e, le-ltb (room list) count h))
