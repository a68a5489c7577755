-- Demand 3, proved of every source that refusals 1 to 3 do not meet, and its corollary.
--     reading_is_whole    the records are few, join without a gap, and cover the source or close on a cut character
--     never_full          a list with room n + n/3 is never refused as full, also where the reading ends in refusal 5
-- Assumes nothing.
use Prim.Native.Nat.{ℕ, zero, suc, ◌+◌, ◌-◌, ◌*◌, ◌<◌, ◌≤◌}
use Rattle.std.proofs.Common.{arith, sym, inl, inr}
use Rattle.std.proofs.Math.Path.{◌≡◌, refl, ap, subst}
use Rattle.std.specs.Prelude.{true, ◌⊎◌, List, [], ◌∷◌, length, get_or, take}
use Rattle.std.specs.declared.result.Result.TheVariants as result
use Rattle.base.specs.PickLaws.{by_lt}
use Rattle.base.specs.Refusal.{list_full, source_most}
use Rattle.position.specs.declared.ByteOffset.{ByteOffset}
use Rattle.position.specs.declared.Position.{Position}
use Rattle.utf8.specs.Encode.{WellFormed}
use Rattle.utf8.specs.Read.{is_tail}
use Rattle.property.specs.Table.{properties_at}
use Rattle.fitness.specs.Fit.{table_check, FitTable}
use Rattle.fitness.specs.FitLaws.{fit_of}
use Rattle.input.specs.Input.{is_edition}
use Rattle.input.specs.InputLaws.{is_fine_lem}
use Rattle.rows.specs.declared.Row.{Row}
use Rattle.state.specs.Lexer.{reach_of}
use Rattle.state.specs.State.{start_state}
use Rattle.state.specs.declared.State.{State}
use Rattle.lexer.specs.Step.{step}
use Rattle.lexer.specs.Fine.{Cuts}
use Rattle.stepping.specs.FineLaws.{no_tail}
use Rattle.stepping.specs.Invariant.{Ok, measure}
use Rattle.stepping.specs.InvariantLaws.{start_ok_lem, step_ok}
use Rattle.stepping.specs.MeasureLaws.{step_falls}
use Rattle.stepping.specs.ReadsLaws.{token_reads, end_stays}
use Rattle.lexer.specs.declared.What.{What}
use Rattle.lexer.specs.declared.What.TheVariants as what
use Rattle.reading.specs.Reading.{row_of, Stop, ended, stuck, deep, Reading, after_step, read_in, read_from, reading}
use Rattle.reading.specs.Potential.{potential, Nested}
use Rattle.reading.proofs.PotentialLaws.{start_nested, start_potential, step_nested, step_pays, stop_pays}
use Rattle.reading.specs.Scan.{end_of, whole, by_room, reading_of, scanned, number_of}
use Rattle.reading.specs.Scan.{Scanned}
use Rattle.promises.specs.Demand3.{most_records, Joined, Chained, without, moving, ClosesOnCut, Whole}

-- ---- what holds of the reading from a state

-- the record that a 65th mode would have had
abbrev lacking : Stop → ℕ
lacking ended = 0
lacking stuck = 0
lacking deep = 1

-- wherever a record ends inside a character, it cut that character
unfoldable CutOnly : List ℕ → List Row → Type 0
CutOnly s [] = Unit {0}
CutOnly s (r ∷ rows) = (is_tail (get_or s r.end 0) ≡ true → Cuts s r.start r.kind r.end) × CutOnly s rows

record Rest (s : List ℕ) (st : State) (r : Reading) : Type 0 where
  paid : 3 * (length r.rows + lacking r.stop) ≤ potential s st
  some : r.stop ≡ stuck → 0 < length r.rows
  chain : Chained (reach_of st.lexer).byte.0 st.lexer.place.span.end.line st.lexer.place.span.end.column.0 (moving r)
  cut : r.stop ≡ ended → CutOnly s r.rows
  ends : r.stop ≡ ended
      → (end_of (reach_of st.lexer).byte.0 r.rows ≡ length s) ⊎ (is_tail (get_or s (end_of (reach_of st.lexer).byte.0 r.rows) 0) ≡ true)

-- a record in front of those that move
moving_onto : (row : Row) (rows : List Row) (why : Stop) → (why ≡ stuck → 0 < length rows) → without why (row ∷ rows) ≡ row ∷ without why rows
moving_onto row rows ended some = refl
moving_onto row rows stuck some =
    let k : 0 < length rows = some refl in
    let n : suc (length rows) - 1 ≡ suc (length rows - 1) = omega arith in
    ap (λ (m : ℕ). take m (row ∷ rows)) n
moving_onto row rows deep some = refl

module _ (s table : List ℕ) (edition : ℕ) (fit : FitTable table) where
  abbrev next : State → State
  next st = (step (properties_at table) edition s st).state

  module _ (st : State) (ok : Ok s st) (nest : Nested st) where
    by_what : (go : State → Reading) (w : What) → (step (properties_at table) edition s st).what ≡ w
        → (measure s (next st) < measure s st → Rest s (next st) (go (next st))) → Rest s st (after_step go st.lexer (next st) w)
    unfolding Chained CutOnly end_of
    by_what go (what.Token u) e ih =
        let r = ih (step_falls s table edition fit st ok u e) in
        let t = token_reads s table edition fit st ok u e in
        let row = row_of u st.lexer (next st).lexer in
        let from : row.start ≡ (reach_of st.lexer).byte.0 = ap (λ (b : ByteOffset). b.0) t.joins.bytes in
        let joined : Joined (reach_of st.lexer).byte.0 st.lexer.place.span.end.line st.lexer.place.span.end.column.0 row =
        record {
          from_byte = from;
          onward = omega (arith, from, t.on);
          from_line = ap (λ (p : Position). p.line) t.joins.span;
          from_column = ap (λ (p : Position). p.column.0) t.joins.span;
        } in
        record {
          paid = omega (arith, r.paid, step_pays s table edition fit st ok nest e);
          some = λ _. omega arith;
          chain = subst (Chained (reach_of st.lexer).byte.0 st.lexer.place.span.end.line st.lexer.place.span.end.column.0)
              (sym (moving_onto row (go (next st)).rows (go (next st)).stop r.some)) (joined, r.chain);
          cut = λ q. (λ c. subst (λ (b : ℕ). Cuts s b u.kind row.end) (sym from) (t.cut c), r.cut q);
          ends = r.ends;
        }
    by_what go what.Stuck e ih =
        record {
          paid = omega (arith, stop_pays s table edition fit st ok nest (inl e));
          some = λ _. omega arith;
          chain = tt;
          cut = λ q. absurd (let z : ◌≡◌ {A = ℕ} 0 1 = cc in omega arith);
          ends = λ q. absurd (let z : ◌≡◌ {A = ℕ} 0 1 = cc in omega arith);
        }
    by_what go what.ModesFull e ih =
        record {
          paid = omega (arith, stop_pays s table edition fit st ok nest (inr e));
          some = λ q. absurd (let z : ◌≡◌ {A = ℕ} 0 1 = cc in omega arith);
          chain = tt;
          cut = λ q. absurd (let z : ◌≡◌ {A = ℕ} 0 1 = cc in omega arith);
          ends = λ q. absurd (let z : ◌≡◌ {A = ℕ} 0 1 = cc in omega arith);
        }
    by_what go what.End e ih =
        record {
          paid = omega arith;
          some = λ q. absurd (let z : ◌≡◌ {A = ℕ} 0 1 = cc in omega arith);
          chain = tt;
          cut = λ q. tt;
          ends = λ q. (end_stays s table edition fit st ok e).0;
        }

  rest : (n : ℕ) (st : State) → Ok s st → Nested st → measure s st < n → Rest s st (read_in n (properties_at table) edition s st)
  unfolding read_in
  rest zero st ok nest h = absurd (omega arith)
  rest (suc n) st ok nest h =
      by_what st ok nest (λ after. read_in n (properties_at table) edition s after) (step (properties_at table) edition s st).what refl
      (λ less. rest n (next st) (step_ok s table edition fit st ok) (step_nested s table edition fit st ok nest) (omega arith))

-- ---- the whole source

-- the last of some records, of which there is one
closes : (s : List ℕ) (b : ℕ) (r : Row) (rows : List Row) → CutOnly s (r ∷ rows) → is_tail (get_or s (end_of b (r ∷ rows)) 0) ≡ true → ClosesOnCut s (r ∷ rows)
unfolding CutOnly end_of
closes s b r [] c e = record { before = []; last = r; parts = refl; cuts = c.0 e }
closes s b r (q ∷ rows) c e =
    let k = closes s r.end q rows c.1 e in
    record { before = r ∷ k.before; last = k.last; parts = ap (λ (l : List Row). r ∷ l) k.parts; cuts = k.cuts }

covered : (s : List ℕ) (rows : List Row) → WellFormed s → CutOnly s rows
    → (end_of 0 rows ≡ length s) ⊎ (is_tail (get_or s (end_of 0 rows) 0) ≡ true) → (end_of 0 rows ≡ length s) ⊎ ClosesOnCut s rows
unfolding end_of
covered s rows w c (inl e) = inl e
covered s [] w c (inr e) = absurd (let n = no_tail s 0 w in let z : ◌≡◌ {A = ℕ} 0 1 = cc in omega arith)
covered s (r ∷ rows) w c (inr e) = inr (closes s 0 r rows c e)

pub reading_is_whole : (s table : List ℕ) (edition : ℕ) → length s ≤ source_most → WellFormed s → FitTable table
    → Whole s (reading (properties_at table) edition s)
unfolding read_from
reading_is_whole s table edition h w fit =
    let r = rest s table edition fit (suc (measure s start_state)) start_state (start_ok_lem s h w) start_nested (omega arith) in
    let p = start_potential s in
    record {
      few = omega (arith, r.paid);
      chain = r.chain;
      covers = λ e. covered s _ w (r.cut e) (r.ends e);
      one_more_lem = λ e. omega (arith, r.paid, ap lacking e);
    }

-- ---- the corollary

module _ (s : List ℕ) (n : ℕ) (r : Reading) (w : Whole s r) (h : most_records (length s) ≤ n) where
  stops_otherwise : (why : Stop) → r.stop ≡ why → number_of (whole n (0 + length r.rows) (end_of 0 r.rows) why) ≡ list_full → ⊥
  stops_otherwise ended e = λ q. omega arith
  stops_otherwise stuck e = λ q. omega arith
  stops_otherwise deep e =
      by_lt (λ (x : Scanned). number_of x ≡ list_full → ⊥) (0 + length r.rows) n (λ _ q. omega arith) (λ k q. omega (arith, w.one_more_lem e))

  has_room : number_of (by_room n 0 0 r) ≡ list_full → ⊥
  has_room =
      by_lt (λ (x : Scanned). number_of x ≡ list_full → ⊥) n (0 + length r.rows) (λ k q. omega (arith, w.few)) (λ _. stops_otherwise r.stop refl)

pub never_full : (source table : List ℕ) (edition n : ℕ) → length source ≤ source_most → is_edition edition ≡ true → table_check table ≡ result.Ok tt → WellFormed source
    → most_records (length source) ≤ n → number_of (scanned source table edition n) ≡ list_full → ⊥
unfolding scanned
never_full source table edition n h k fit w room e =
    has_room source n (reading_of source table edition) (reading_is_whole source table edition h w (fit_of table fit)) room
    (rw (is_fine_lem source_most source table edition (record { short = h; known = k; fit = fit; well = w })) at e)
