-- What a scan's loop and its callers may use of `Scan`, in either layout.
--     fills_none, fills_full, fills_row    a reading with no record; one that has a record and no room; one more record
--     room_writes                          whatever the room, those records that have it are written
--     scans_refused                        a scan that a refusal meets before any work
--     scans_fine                           a scan that none meets
--     count_room                           a scan counts no more records than the list has room for
--     one_answer                           no second answer and no second list fits a scan
-- Assumes nothing.
use Prim.Native.Nat.{ℕ, zero, suc, ◌+◌, ◌-◌, ◌≤◌, ◌<◌}
use native.Mathlib.Omega.{arith}
use Rattle.std.proofs.Common.{add-zero, ◌∙◌}
use Rattle.std.specs.Prelude.{◌≡◌, refl, ltb, Ok, Err}
use Rattle.std.proofs.Math.Path.{sym, ap, subst}
use mathlib.Core.List.{List, [], ◌∷◌}
use Rattle.std.proofs.Math.ListN.{length, take}
use borrow.Author.Tests.{lt-ltb, le-ltb}
use Rattle.base.specs.PickLaws.{by_test, by_lt}
use Rattle.base.specs.Refusal.{source_most}
use Rattle.property.specs.Table.{properties_at}
use Rattle.input.specs.Input.{input_check}
use Rattle.input.specs.InputLaws.{by_input_lem}
use Rattle.input.specs.declared.Refusal.{Refusal}
use Rattle.rows.specs.Row.{put_rows, put_rows_at}
use Rattle.rows.specs.RowLaws as rows
use Rattle.rows.specs.declared.Row.{Row}
use Rattle.half_rows.specs.Half.{Marked, marked, put_halves, put_halves_at}
use Rattle.half_rows.specs.HalfLaws as half
use Rattle.layout.specs.Layout.{room_in, put_in}
use Rattle.layout.specs.LayoutLaws.{put_room}
use Rattle.layout.specs.declared.Layout.{Layout}
use Rattle.layout.specs.declared.Layout.TheVariants.{Whole, Half}
use Rattle.state.specs.State.{start_state}
use Rattle.state.specs.declared.State.{State}
use Rattle.reading.specs.Reading.{Stop, ended, stuck, deep, Reading, onto, stopped}
use Rattle.reading.specs.Scan.{Scanned, stands_still, mark_all, marked_rows, end_of, whole, by_room, puts_in, FillsIn, ReadsOnIn}
use Rattle.reading.specs.Scan.{reading_of, scanned, written_by, written, written_marked, writes_in, ScansIn, count_of}
use Rattle.reading.specs.declared.ScanError.TheVariants.{Refused, ListFull}

take_none : {A : Type 0} (n : ℕ) → take {A = A} n [] ≡ []
take_none zero = refl
take_none (suc n) = refl

-- ---- the words of a list

-- no record is put where none has room, and where none is left
puts_zero : (layout : Layout) (l : List ℕ) (k : ℕ) (r : Reading) → puts_in layout l k 0 r ≡ l
puts_zero Whole l k r = rows.puts_none l k
puts_zero Half l k r = half.puts_none l k

puts_stopped : (layout : Layout) (l : List ℕ) (k n : ℕ) (why : Stop) → puts_in layout l k n (stopped why) ≡ l
unfolding mark_all
puts_stopped Whole l k n why = ap (put_rows_at l k) (take_none n) ∙ rows.puts_none l k
puts_stopped Half l k n why = ap (put_halves_at l k) (take_none n) ∙ half.puts_none l k

-- the first of some is put, and then the others
puts_onto : (layout : Layout) (l : List ℕ) (k n : ℕ) (row : Row) (r : Reading)
    → puts_in layout l k (suc n) (onto row r) ≡ puts_in layout (put_in layout l k (marked row (stands_still r.stop r.rows))) (k + 1) n r
unfolding mark_all
puts_onto Whole l k n row r = rows.puts_next l k row (take n r.rows)
puts_onto Half l k n row r = half.puts_next l k (marked row (stands_still r.stop r.rows)) (take n (marked_rows r))

-- ---- a reading that goes on

module _ {layout : Layout} (l : List ℕ) (k b : ℕ) where
  -- no record is left
  pub fills_none : (why : Stop) → k ≤ room_in layout l → FillsIn layout l k b (stopped why) (whole (room_in layout l) k b why) l
  unfolding end_of
  fills_none why h =
      record {
        answer = rw (add-zero k, le-ltb (room_in layout l) k h);
        words = sym (puts_stopped layout l k (room_in layout l - k) why);
      }

  -- a record is left and has no room
  pub fills_full : (row : Row) (r : Reading) → k ≡ room_in layout l → FillsIn layout l k b (onto row r) (Err (ListFull k b)) l
  unfolding end_of
  fills_full row r h =
      let z : room_in layout l - k ≡ 0 = omega arith in
      record {
        answer = rw (lt-ltb (room_in layout l) (k + suc (length r.rows)) (omega arith), z, h);
        words = rw z (sym (puts_zero layout l k (onto row r)));
      }

  -- a record has room: it is written, and the rest goes on after it
  pub fills_row : (row : Row) (r : Reading) (x : Scanned) (new : List ℕ) → k < room_in layout l
      → FillsIn layout (put_in layout l k (marked row (stands_still r.stop r.rows))) (k + 1) row.end r x new → FillsIn layout l k b (onto row r) x new
  unfolding end_of
  fills_row row r x new h f =
      let m : Marked = marked row (stands_still r.stop r.rows) in
      let same : room_in layout (put_in layout l k m) ≡ room_in layout l = put_room layout l k m h in
      let n : room_in layout l - k ≡ suc (room_in layout l - (k + 1)) = omega arith in
      let one : k + suc (length r.rows) ≡ k + 1 + length r.rows = omega arith in
      record {
        answer = f.answer ∙ ap (λ (i : ℕ). by_room i (k + 1) row.end r) same ∙ rw (n, one);
        words = f.words
            ∙ ap (λ (i : ℕ). puts_in layout (put_in layout l k m) (k + 1) (i - (k + 1)) r) same
            ∙ sym (ap (λ (i : ℕ). puts_in layout l k i (onto row r)) n ∙ puts_onto layout l k (room_in layout l - (k + 1)) row r);
      }

-- ---- a scan

-- whatever the room, those records that have it are written
pub room_writes : {A : Type 0} (n k b : ℕ) (r : Reading) (rows : List A) → written_by (by_room n k b r) rows ≡ rows
room_writes n k b r rows =
    by_test (λ (x : Scanned). written_by x rows ≡ rows) (ltb n (k + length r.rows)) (λ _. refl) (λ _. stops r.stop)
  where
    stops : (why : Stop) → written_by (whole n (k + length r.rows) (end_of b r.rows) why) rows ≡ rows
    stops ended = refl
    stops stuck = refl
    stops deep = by_test (λ (x : Scanned). written_by x rows ≡ rows) (ltb (k + length r.rows) n) (λ _. refl) (λ _. refl)

module _ (old source table : List ℕ) (edition n : ℕ) where
  -- a refusal that comes before any work
  writes_none : (layout : Layout) {x : Refusal} → scanned source table edition n ≡ Err (Refused x) → writes_in layout old source table edition n ≡ old
  unfolding written written_marked
  writes_none Whole e =
      ap (λ (r : Scanned). put_rows old (written_by r (take n (reading_of source table edition).rows))) e ∙ rows.rows_none old
  writes_none Half e =
      ap (λ (r : Scanned). put_halves old (written_by r (take n (marked_rows (reading_of source table edition))))) e ∙ half.halves_none old

  -- and none
  writes_all : (layout : Layout) → scanned source table edition n ≡ by_room n 0 0 (reading_of source table edition)
      → puts_in layout old 0 (n - 0) (reading_of source table edition) ≡ writes_in layout old source table edition n
  unfolding written written_marked
  writes_all Whole e =
      let all : List Row = take n (reading_of source table edition).rows in
      let z : n - 0 ≡ n = omega arith in
      ap (λ (i : ℕ). put_rows_at old 0 (take i (reading_of source table edition).rows)) z
      ∙ rows.rows_one_by_one old all
      ∙ sym (ap (λ (x : Scanned). put_rows old (written_by x all)) e ∙ ap (put_rows old) (room_writes n 0 0 (reading_of source table edition) all))
  writes_all Half e =
      let all : List Marked = take n (marked_rows (reading_of source table edition)) in
      let z : n - 0 ≡ n = omega arith in
      ap (λ (i : ℕ). put_halves_at old 0 (take i (marked_rows (reading_of source table edition)))) z
      ∙ half.halves_one_by_one old all
      ∙ sym (ap (λ (x : Scanned). put_halves old (written_by x all)) e ∙ ap (put_halves old) (room_writes n 0 0 (reading_of source table edition) all))

module _ {layout : Layout} {source table : List ℕ} {edition : ℕ} {old : List ℕ} where
  -- a refusal that writes nothing
  pub scans_refused : {x : Refusal} → input_check source_most source table edition ≡ Err x
      → ScansIn layout source table edition old (Err (Refused x)) old
  unfolding scanned
  scans_refused {x} c =
      let e : scanned source table edition (room_in layout old) ≡ Err (Refused x) = rw c in
      record { answer = sym e; words = sym (writes_none old source table edition (room_in layout old) layout e) }

  -- no refusal before any work: the records are read from the start
  pub scans_fine : {st : State} {r : Scanned} {new : List ℕ} → input_check source_most source table edition ≡ Ok tt → st ≡ start_state
      → ReadsOnIn layout (properties_at table) edition source st 0 old r new → ScansIn layout source table edition old r new
  unfolding scanned
  scans_fine {st} {r} {new} c q g =
      let f : FillsIn layout old 0 0 (reading_of source table edition) r new =
      subst (λ (x : State). ReadsOnIn layout (properties_at table) edition source x 0 old r new) q g in
      let e : scanned source table edition (room_in layout old) ≡ by_room (room_in layout old) 0 0 (reading_of source table edition) = rw c in
      record { answer = f.answer ∙ sym e; words = f.words ∙ writes_all old source table edition (room_in layout old) layout e }

-- ---- how many records a scan counts

module _ (n : ℕ) where
  -- an answer that counts no more than n records
  abbrev Within : Scanned → Type 0
  Within r = count_of r ≤ n

  room_counts : (k b : ℕ) (r : Reading) → Within (by_room n k b r)
  room_counts k b r = by_lt Within n (k + length r.rows) (λ _. omega arith) (λ h. stops r.stop h)
    where
      stops : (why : Stop) → k + length r.rows ≤ n → Within (whole n (k + length r.rows) (end_of b r.rows) why)
      stops ended h = h
      stops stuck h = h
      stops deep h = by_test Within (ltb (k + length r.rows) n) (λ _. h) (λ _. h)

  pub count_room : (source table : List ℕ) (edition : ℕ) → count_of (scanned source table edition n) ≤ n
  unfolding scanned
  count_room source table edition =
      by_input_lem (λ x. Err (Refused x)) (λ (g : Scanned → Scanned). Within (g (by_room n 0 0 (reading_of source table edition)))) (input_check source_most source table edition)
      (λ _. omega arith) (room_counts 0 0 (reading_of source table edition))

-- no second answer and no second list fits
pub one_answer : {layout : Layout} (source table : List ℕ) (edition : ℕ) (old : List ℕ) (r q : Scanned) (new other : List ℕ)
    → ScansIn layout source table edition old r new → ScansIn layout source table edition old q other → (r ≡ q) × (new ≡ other)
one_answer source table edition old r q new other a b = (a.answer ∙ sym b.answer, a.words ∙ sym b.words)
