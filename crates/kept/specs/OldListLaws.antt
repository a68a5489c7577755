-- C-7: what the list of a scan is, refused by 4 or 5 or not: where it has a record, nothing was refused before the work, and its records are
-- the reading's first.
--     old_list     of a list with a record
--     old_words    it has the words of its records
--     old_kept     so the first of them begin the reading
-- Assumes nothing.
use Rattle.std.specs.Prelude.{ℕ, zero, suc, ◌+◌, ◌≤◌, ◌<◌, ◌≡◌, List, [], ◌∷◌, ◌++◌, Err, ltb, get_or, take, drop, Result, Ok}
use Rattle.std.proofs.Common.{arith, sym, subst, ◌∙◌, take-append-drop, length-take-le, take_all, take-take, get_or-take}
use Rattle.std.proofs.Math.Path.{refl, ap}
use Rattle.std.proofs.Math.Bool.{true}
use Rattle.std.proofs.Math.ListN.{length, length-take}
use Rattle.base.specs.PickLaws.{by_test, by_lt}
use Rattle.base.specs.Refusal.{source_most}
use Rattle.fitness.specs.FitLaws.{fit_of}
use Rattle.input.specs.Input.{input_check, Readable, on_input}
use Rattle.input.specs.InputLaws.{fine_of}
use Rattle.input.specs.declared.Refusal.{Refusal}
use Rattle.rows.specs.First.{row_fits}
use Rattle.rows.specs.FirstLaws.{fits_packs}
use Rattle.rows.specs.Row.{room, put_rows, rows_of}
use Rattle.rows.specs.RowLaws.{rows_back}
use Rattle.rows.specs.declared.Row.{Row}
use Rattle.state.specs.State.{start_state}
use Rattle.stepping.specs.InvariantLaws.{start_ok_lem}
use Rattle.reading.specs.Reading.{Stop, ended, stuck, deep, Reading}
use Rattle.reading.specs.ShownLaws.{reading_shown}
use Rattle.reading.specs.ScanLaws.{room_writes}
use Rattle.reading.specs.Scan.{end_of, whole, by_room, reading_of, scanned, written_by, written, Scans, count_of}
use Rattle.reading.specs.Scan.{Scanned}
use Rattle.reading.specs.declared.ScanError.TheVariants.{Refused}
use Rattle.kept.specs.Kept.{OldList}

-- ---- by the reading

counted : (n : ℕ) (q : Reading) → count_of (by_room n 0 0 q) ≡ length (take n q.rows)
counted n q =
    by_lt Counts n (0 + length q.rows) (λ h. sym (length-take-le n q.rows (omega arith)))
    (λ h. let e : 0 + length q.rows ≡ length (take n q.rows) = omega (arith, ap length (take_all n q.rows (omega arith))) in
    stops e q.stop)
  where
    Counts : Scanned → Type 0
    Counts x = count_of x ≡ length (take n q.rows)

    stops : 0 + length q.rows ≡ length (take n q.rows) → (why : Stop) → count_of (whole n (0 + length q.rows) (end_of 0 q.rows) why) ≡ length (take n q.rows)
    stops e ended = e
    stops e stuck = e
    stops e deep = by_test Counts (ltb (0 + length q.rows) n) (λ _. e) (λ _. e)

take_counted : (n : ℕ) (l : List Row) → take (length (take n l)) l ≡ take n l
take_counted zero l = refl
take_counted (suc n) [] = refl
take_counted (suc n) (x ∷ l) = ap {B = List Row} (λ t. x ∷ t) (take_counted n l)

-- ---- the list

module _ (s table : List ℕ) (edition n : ℕ) where
  -- an answer that counts a record is by the reading
  record ByReading (x : Scanned) : Type 0 where
    readable : Readable source_most s table edition
    by_room_lem : x ≡ by_room n 0 0 (reading_of s table edition)

  unrefused : 0 < count_of (scanned s table edition n) → ByReading (scanned s table edition n)
  unfolding scanned
  unrefused = go (input_check source_most s table edition) refl
    where
      go : (c : Result (Unit {0}) Refusal) → input_check source_most s table edition ≡ c → 0 < count_of (on_input (λ x. Err (Refused x)) c (by_room n 0 0 (reading_of s table edition)))
          → ByReading (on_input (λ x. Err (Refused x)) c (by_room n 0 0 (reading_of s table edition)))
      go (Ok _) e k = record { readable = fine_of source_most s table edition e; by_room_lem = refl }
      go (Err x) e k = absurd (omega arith)

module _ (s table : List ℕ) (edition : ℕ) (old list : List ℕ) (r : Scanned) (d : Row) where
  -- the records that were written
  abbrev rows : List Row
  rows = take (room old) (reading_of s table edition).rows

  -- how many they are, and that the list has their words, from which they are read back
  record Written : Type 0 where
    readable : Readable source_most s table edition
    count : count_of r ≡ length rows
    words : list ≡ put_rows old rows
    back : rows_of (count_of r) list ≡ rows

  are_written : Scans s table edition old r list → 0 < count_of r → Written
  unfolding written
  are_written p h =
      let n = room old in
      let q = reading_of s table edition in
      let b = unrefused s table edition n (subst (λ (x : Scanned). 0 < count_of x) p.answer h) in
      let w : written s table edition n ≡ rows = ap (λ (x : Scanned). written_by x rows) b.by_room_lem ∙ room_writes n 0 0 q rows in
      let c : count_of r ≡ length rows = ap count_of (p.answer ∙ b.by_room_lem) ∙ counted n q in
      let l : list ≡ put_rows old rows = p.words ∙ ap (put_rows old) w in
      let ok = start_ok_lem s b.readable.short b.readable.well in
      let shown : (i : ℕ) → i < length rows → row_fits (get_or rows i d) ≡ true =
      λ i k. ap row_fits (get_or-take n q.rows i d (omega (arith, length-take n q.rows)))
      ∙ reading_shown s table edition (fit_of table b.readable.fit) start_state ok i d (omega (arith, length-take n q.rows)) in
      let back : rows_of (length rows) (put_rows old rows) ≡ rows =
      rows_back old rows d (λ i k. fits_packs (get_or rows i d) (shown i k)) in
      record { readable = b.readable; count = c; words = l; back = (λ i. rows_of (c i) (l i)) ∙ back }

  pub old_list : Scans s table edition old r list → 0 < count_of r → OldList s table edition list (count_of r)
  old_list p h =
      let w = are_written p h in
      let q = reading_of s table edition in
      record {
        readable = w.readable;
        rows = w.back ∙ sym (ap (λ (k : ℕ). take k q.rows) w.count ∙ take_counted (room old) q.rows);
      }

  -- the list has the words of its records, and then what was there before
  pub old_words : Scans s table edition old r list → 0 < count_of r → list ≡ put_rows old (rows_of (count_of r) list)
  old_words p h = let w = are_written p h in w.words ∙ ap (put_rows old) (sym w.back)

-- the first of them begin the reading
pub old_kept : {s table : List ℕ} {edition : ℕ} {list : List ℕ} {count : ℕ} → OldList s table edition list count → (k : ℕ) → k ≤ count
    → (reading_of s table edition).rows ≡ take k (rows_of count list) ++ drop k (reading_of s table edition).rows
old_kept {s} {table} {edition} {list} {count} o k h =
    let rows = (reading_of s table edition).rows in
    sym (take-append-drop k rows)
    ∙ ap (λ (l : List Row). l ++ drop k rows) (sym (ap (take k) o.rows ∙ take-take k count rows h))
