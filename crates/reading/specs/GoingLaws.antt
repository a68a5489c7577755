-- A loop that reads on into a list, in either layout: what holds at its head (`Going`), and what each way out and each turn owes. What completes the list from
-- here completes it from the start. What such a loop owes whatever it does with the records is in `HeadLaws`.
--     stuck_written                             an Error that stands still
--     begins, from_start                        into the loop
--     at_end, at_modes, at_full, at_stuck       the ways out
--     again                                     a turn
-- Assumes nothing.
use Rattle.std.specs.Prelude as result
use Rattle.std.specs.Prelude.{ℕ, ◌+◌, ◌≤◌, ◌<◌, ◌≡◌, refl, true, false, List, length}
use Rattle.std.proofs.Common.{arith, sym, ap, subst, ◌∙◌}
use Rattle.property.specs.Table.{properties_at}
use Rattle.fitness.specs.Fit.{FitTable}
use Rattle.token.specs.Kind.{error}
use Rattle.half_rows.specs.Half.{marked}
use Rattle.layout.specs.Layout.{room_in, put_in}
use Rattle.layout.specs.LayoutLaws.{put_length, put_room}
use Rattle.layout.specs.declared.Layout.{Layout}
use Rattle.token.specs.declared.Token.{Token}
use Rattle.rows.specs.declared.Row.{Row}
use Rattle.token.specs.Token.{token_of}
use Rattle.state.specs.Lexer.{reach_of}
use Rattle.state.specs.State.{state_of}
use Rattle.state.specs.Stack.{Agrees}
use Rattle.state.specs.StackLaws.{state_is}
use Rattle.state.specs.declared.Lexer.{Lexer}
use Rattle.state.specs.declared.State.{State}
use Rattle.lexer.specs.Step.{half, step}
use Rattle.stepping.specs.Invariant.{Ok}
use Rattle.lexer.specs.declared.Half.{Half}
use Rattle.lexer.specs.declared.What.TheVariants as what
use Rattle.reading.specs.Reading.{row_of, ended, stuck, deep, Reading, stuck_reading, stopped, read_from}
use Rattle.reading.specs.Scan.{Scanned, stands_still, whole, FillsIn, ReadsOnIn}
use Rattle.reading.specs.ScanLaws.{fills_none, fills_full, fills_row}
use Rattle.reading.specs.ShownLaws.{stuck_some, still_last}
use Rattle.reading.specs.HeadLaws.{Head, begin_head, left_is, left_token, left_stuck, byte_after, byte_stays, head_again}
use Rattle.reading.specs.declared.Scan.TheVariants.{End, Stuck}
use Rattle.reading.specs.declared.ScanError.TheVariants.{ListFull}

-- ---- an Error that stands still

module _ {layout : Layout} (l : List ℕ) (k : ℕ) (before after : Lexer) where
  pub stuck_written : k < room_in layout l → {t : Token} {row : Row} {new : List ℕ} → t ≡ token_of error → row ≡ row_of t before after
      → new ≡ put_in layout l k (marked row true)
      → FillsIn layout l k (reach_of after).byte.0 (stuck_reading before after) (result.Ok (Stuck (k + 1) (reach_of after).byte.0)) new
  stuck_written h {t} {row} {new} e q p =
      let last : Row = row_of (token_of error) before after in
      let put : List ℕ = put_in layout l k (marked last true) in
      let written : new ≡ put = p ∙ ap (λ (x : Row). put_in layout l k (marked x true)) (q ∙ ap (λ (u : Token). row_of u before after) e) in
      fills_row l k (reach_of after).byte.0 last (stopped stuck) (result.Ok (Stuck (k + 1) (reach_of after).byte.0)) new h
      (subst (λ (m : List ℕ). FillsIn layout put (k + 1) last.end (stopped stuck) (result.Ok (Stuck (k + 1) last.end)) m) (sym written)
      (fills_none put (k + 1) last.end stuck (omega (arith, put_room layout l k (marked last true) h))))

-- ---- the loop

-- the head of the loop: the state, the count of records and the list, and what they were at the start
pub record Going (layout : Layout) (s table : List ℕ) (edition : ℕ) (st₀ : State) (k₀ : ℕ) (l₀ : List ℕ) (st : State) (k : ℕ) (l : List ℕ) : Type 0 where
  pub head : Head s table edition st
  pub within : k ≤ room_in layout l
  pub long : length l ≡ length l₀
  pub rest : (x : Scanned) (new : List ℕ) → ReadsOnIn layout (properties_at table) edition s st k l x new
      → ReadsOnIn layout (properties_at table) edition s st₀ k₀ l₀ x new

-- it begins with the lexer and the codes of a state
pub begins : (layout : Layout) (s table : List ℕ) (edition : ℕ) (st : State) (k : ℕ) (l : List ℕ) → Ok s st → FitTable table → k ≤ room_in layout l
    → Going layout s table edition (state_of st.lexer st.modes.codes) k l (state_of st.lexer st.modes.codes) k l
begins layout s table edition st k l o f h =
    record { head = begin_head s table edition st o f; within = h; long = refl; rest = λ x new r. r }

-- which are the whole state
pub from_start : {layout : Layout} {s table : List ℕ} {edition : ℕ} {st₀ : State} {k₀ : ℕ} {l₀ : List ℕ} {st : State} {k : ℕ} {l : List ℕ} → Agrees st₀
    → Going layout s table edition (state_of st₀.lexer st₀.modes.codes) k₀ l₀ st k l → Going layout s table edition st₀ k₀ l₀ st k l
from_start {layout} {s} {table} {edition} {st₀} {k₀} {l₀} {st} {k} {l} a g =
    subst (λ (x : State). Going layout s table edition x k₀ l₀ st k l) (state_is st₀ a) g

module _ {layout : Layout} {s table : List ℕ} {edition : ℕ} {st₀ : State} {k₀ : ℕ} {l₀ : List ℕ} {st : State} {k : ℕ} {l : List ℕ}
    (g : Going layout s table edition st₀ k₀ l₀ st k l) where
  abbrev found : Half
  found = half (properties_at table) edition s st.lexer

  abbrev next : State
  next = (step (properties_at table) edition s st).state

  abbrev byte : ℕ
  byte = (reach_of st.lexer).byte.0

  -- a way out
  comes : {r : Reading} {x : Scanned} {new : List ℕ} → read_from (properties_at table) edition s st ≡ r → FillsIn layout l k byte r x new
      → ReadsOnIn layout (properties_at table) edition s st₀ k₀ l₀ x new
  comes {r} {x} {new} e f = g.rest x new (subst (λ (q : Reading). FillsIn layout l k byte q x new) (sym e) f)

  pub at_end : found.what ≡ what.End → ReadsOnIn layout (properties_at table) edition s st₀ k₀ l₀ (result.Ok (End k byte)) l
  at_end e = comes (left_is g.head what.End e) (fills_none l k byte ended g.within)

  pub at_modes : found.what ≡ what.ModesFull → {n : ℕ} {x : Scanned} → n ≡ room_in layout l → x ≡ whole n k byte deep
      → ReadsOnIn layout (properties_at table) edition s st₀ k₀ l₀ x l
  at_modes e {n} {x} m q =
      comes (left_is g.head what.ModesFull e)
      (subst (λ (y : Scanned). FillsIn layout l k byte (stopped deep) y l) (sym (q ∙ ap (λ (i : ℕ). whole i k byte deep) m))
      (fills_none l k byte deep g.within))

  pub at_full : (u : Token) → found.what ≡ what.Token u → room_in layout l ≤ k → ReadsOnIn layout (properties_at table) edition s st₀ k₀ l₀ (result.Err (ListFull k byte)) l
  at_full u e h =
      comes (left_token g.head u e refl) (fills_full l k byte (row_of u st.lexer found.lexer) (read_from (properties_at table) edition s next) (omega (arith, g.within)))

  pub at_stuck : found.what ≡ what.Stuck → {after : Lexer} {x : Scanned} {new : List ℕ} → after ≡ found.lexer
      → FillsIn layout l k (reach_of after).byte.0 (stuck_reading st.lexer after) x new → ReadsOnIn layout (properties_at table) edition s st₀ k₀ l₀ x new
  at_stuck e {after} {x} {new} q f =
      comes (left_stuck g.head e)
      (subst (λ (i : ℕ). FillsIn layout l k i (stuck_reading st.lexer found.lexer) x new) (byte_stays g.head e)
      (subst (λ (m : Lexer). FillsIn layout l k (reach_of m).byte.0 (stuck_reading st.lexer m) x new) q f))

  -- once more, from the state as the code has it: the record is written
  pub again : (u : Token) → found.what ≡ what.Token u → k < room_in layout l → {l' : List ℕ} {row : Row} {x : State} → row ≡ row_of u st.lexer found.lexer
      → l' ≡ put_in layout l k (marked row false) → x ≡ next → Going layout s table edition st₀ k₀ l₀ x (k + 1) l'
  again u e h {l'} {row} {x} q p y =
      let rest = read_from (properties_at table) edition s x in
      let moves : stands_still rest.stop rest.rows ≡ false = still_last rest.stop rest.rows (stuck_some (properties_at table) edition s x) in
      let written : l' ≡ put_in layout l k (marked (row_of u st.lexer found.lexer) (stands_still rest.stop rest.rows)) =
      p ∙ (λ i. put_in layout l k (marked (q i) (sym moves i))) in
      let same : room_in layout l' ≡ room_in layout l = ap (room_in layout) p ∙ put_room layout l k (marked row false) h in
      let long : length l' ≡ length l = ap length p ∙ put_length layout l k (marked row false) h in
      record {
        head = head_again g.head y;
        within = omega arith;
        long = long ∙ g.long;
        rest = λ z new f. comes (left_token g.head u e y)
            (fills_row l k byte (row_of u st.lexer found.lexer) (read_from (properties_at table) edition s x) z new h
            (subst (λ (m : List ℕ). FillsIn layout m (k + 1) (reach_of found.lexer).byte.0 (read_from (properties_at table) edition s x) z new) written
            (subst (λ (b : ℕ). FillsIn layout l' (k + 1) b (read_from (properties_at table) edition s x) z new) (byte_after g.head y) f)));
      }
