-- The promise of `Scan`, proved, and that no second answer and no second list fits.
--     scan_promise, scan_has_one_answer
--     scan_same_in_more_room    a list with more room gets the same records and the same answer, unless there was too little
--     count_is_written          the count is that of the records written
-- Assumes nothing.
use Rattle.std.specs.Prelude.{ℕ, ◌+◌, ◌-◌, ◌<◌, ◌≤◌, ◌≡◌, refl, List, Err, ltb, length, take}
use Rattle.std.proofs.Common.{arith, sym, ap, subst, ◌∙◌, take_all, length-take-le, lt-ltb, le-ltb}
use Rattle.base.specs.PickLaws.{by_test, by_lt, split_lt}
use Rattle.base.specs.Refusal.{bad_utf8, cut_utf8, list_full, source_most}
use Rattle.utf8.specs.Meaning.{Arriving, Damaged}
use Rattle.input.specs.Input.{input_check}
use Rattle.input.specs.InputLaws.{is_long, is_none, is_table, is_bad, is_cut, is_fine_lem, by_input_lem, only_bad, only_cut}
use Rattle.rows.specs.Row.{room, put_rows, put_rows_at}
use Rattle.rows.specs.RowLaws.{rows_one_by_one}
use Rattle.half_rows.specs.Half.{put_halves_at}
use Rattle.half_rows.specs.HalfLaws.{halves_one_by_one}
use Rattle.layout.specs.Layout.{room_in}
use Rattle.layout.specs.declared.Layout.{Layout}
use Rattle.layout.specs.declared.Layout.TheVariants.{Whole, Half}
use Rattle.reading.specs.Reading as reading
use Rattle.reading.specs.Scan.{marked_rows, end_of, whole, by_room, puts_in, reading_of, scanned, written_by, written, firsts_in, Scans, ScansIn, number_of, place_of, count_of}
use Rattle.reading.specs.ScanLaws.{scans_refused, scans_fine, one_answer}
use Rattle.reading.specs.Scan.{Scanned}
use Rattle.reading.specs.declared.ScanError.TheVariants as error
use Rattle.promises.specs.Scan.{scan_says, Readable, rows, stop, ScanPromise}

-- ---- by the room

-- no record comes before the reading's
none_before : (k : ℕ) → 0 + k ≡ k
none_before k = omega arith

module _ (n : ℕ) (q : reading.Reading) where
  all_fit : length q.rows ≤ n → by_room n 0 0 q ≡ whole n (length q.rows) (end_of 0 q.rows) q.stop
  all_fit h = rw (none_before (length q.rows), le-ltb n (length q.rows) h)

  not_all_fit : n < length q.rows → by_room n 0 0 q ≡ Err (error.ListFull n (end_of 0 (take n q.rows)))
  not_all_fit h = let z : n - 0 ≡ n = omega arith in rw (none_before (length q.rows), lt-ltb n (length q.rows) h, z)

-- a token is left that would push a 65th mode: 4 where its record has no room, and else 5
module _ (n k b : ℕ) where
  no_room_lem : k ≡ n → whole n k b reading.deep ≡ Err (error.ListFull n b)
  no_room_lem e = rw (le-ltb k n (omega arith), e)

  has_room : k < n → whole n k b reading.deep ≡ Err (error.ModesFull k b)
  has_room h = rw (lt-ltb k n h)

-- a reading gets no refusal but 4 and 5
module _ (n : ℕ) (q : reading.Reading) where
  abbrev Works : Scanned → Type 0
  Works x = (number_of x ≡ bad_utf8 → ⊥) × (number_of x ≡ cut_utf8 → ⊥)

  works : Works (by_room n 0 0 q)
  works = by_test Works (ltb n (0 + length q.rows)) (λ _. (λ m. omega arith, λ m. omega arith)) (λ _. stops q.stop)
    where
      stops : (why : reading.Stop) → Works (whole n (0 + length q.rows) (end_of 0 q.rows) why)
      stops reading.ended = (λ m. omega arith, λ m. omega arith)
      stops reading.stuck = (λ m. omega arith, λ m. omega arith)
      stops reading.deep =
          by_test Works (ltb (0 + length q.rows) n) (λ _. (λ m. omega arith, λ m. omega arith)) (λ _. (λ m. omega arith, λ m. omega arith))

-- so 3 and 15 are those of the checks
module _ (source table : List ℕ) (edition n : ℕ) where
  bad_only : number_of (scanned source table edition n) ≡ bad_utf8 → Damaged source (place_of (scanned source table edition n))
  unfolding scanned
  bad_only =
      only_bad source_most source table edition (λ x. Err (error.Refused x)) number_of place_of (by_room n 0 0 (reading_of source table edition)) (λ x. refl) (λ x. refl)
      (works n (reading_of source table edition)).0

  cut_only : number_of (scanned source table edition n) ≡ cut_utf8 → Arriving source (place_of (scanned source table edition n))
  unfolding scanned
  cut_only =
      only_cut source_most source table edition (λ x. Err (error.Refused x)) number_of place_of (by_room n 0 0 (reading_of source table edition)) (λ x. refl) (λ x. refl)
      (works n (reading_of source table edition)).1

-- ---- the promise

-- the first n records of a reading, put one after the other
puts_firsts : (layout : Layout) (old : List ℕ) (n : ℕ) (q : reading.Reading) → puts_in layout old 0 (n - 0) q ≡ firsts_in layout old n q
puts_firsts Whole old n q =
    let z : n - 0 ≡ n = omega arith in ap (λ (i : ℕ). put_rows_at old 0 (take i q.rows)) z ∙ rows_one_by_one old (take n q.rows)
puts_firsts Half old n q =
    let z : n - 0 ≡ n = omega arith in
    ap (λ (i : ℕ). put_halves_at old 0 (take i (marked_rows q))) z ∙ halves_one_by_one old (take n (marked_rows q))

module _ {layout : Layout} (source table : List ℕ) (edition : ℕ) (old : List ℕ) where
  -- where no refusal comes before the work
  read : Readable source table edition
      → ScansIn layout source table edition old (by_room (room_in layout old) 0 0 (reading_of source table edition)) (puts_in layout old 0 (room_in layout old - 0) (reading_of source table edition))
  read g = scans_fine (is_fine_lem source_most source table edition g) refl (record { answer = refl; words = refl })

  module _ (r : Scanned) (new : List ℕ) (p : ScansIn layout source table edition old r new) where
    -- a refusal that writes nothing
    kept : {x : Scanned} → ScansIn layout source table edition old x old → (scan_says r ≡ scan_says x) × (new ≡ old)
    kept {x} q = let both = one_answer source table edition old r x new old p q in (ap scan_says both.0, both.1)

    by_reading_lem : Readable source table edition → r ≡ by_room (room_in layout old) 0 0 (reading_of source table edition)
    by_reading_lem g = (one_answer source table edition old r _ new _ p (read g)).0

    -- all records have room
    by_stop_lem : Readable source table edition → {why : reading.Stop} → stop source table edition ≡ why → length (rows source table edition) ≤ room_in layout old
        → r ≡ whole (room_in layout old) (length (rows source table edition)) (end_of 0 (rows source table edition)) why
    by_stop_lem g e h =
        by_reading_lem g ∙ all_fit (room_in layout old) (reading_of source table edition) h ∙ ap (whole (room_in layout old) (length (rows source table edition)) (end_of 0 (rows source table edition))) e

    pub scan_promise : ScanPromise layout source table edition old r new
    scan_promise =
        let k : ℕ = length (rows source table edition) in
        record {
          too_long_lem = λ h. kept (scans_refused (is_long source_most source table edition h));
          bad_edition_lem = λ h k. kept (scans_refused (is_none source_most source table edition h k));
          bad_table_lem = λ h k i e. kept (scans_refused (is_table source_most source table edition h k i e));
          bad_utf8_lem = λ h k f i w. kept (scans_refused (is_bad source_most source table edition h k f i w));
          cut_utf8_lem = λ h k f i w. kept (scans_refused (is_cut source_most source table edition h k f i w));
          ended = λ g e h. ap scan_says (by_stop_lem g e h);
          is_stuck = λ g e h. ap scan_says (by_stop_lem g e h);
          list_full_lem = λ g h. ap scan_says (by_reading_lem g ∙ not_all_fit (room_in layout old) (reading_of source table edition) h);
          full_before_deep = λ g e h. ap scan_says (by_stop_lem g e (omega arith) ∙ no_room_lem (room_in layout old) k (end_of 0 (rows source table edition)) h);
          modes_full_lem = λ g e h. ap scan_says (by_stop_lem g e (omega arith) ∙ has_room (room_in layout old) k (end_of 0 (rows source table edition)) h);
          words = λ g. (one_answer source table edition old r _ new _ p (read g)).1 ∙ puts_firsts layout old (room_in layout old) (reading_of source table edition);
          only_bad = λ m. subst (λ (x : Scanned). Damaged source (place_of x)) (sym p.answer) (bad_only source table edition (room_in layout old) (ap number_of (sym p.answer) ∙ m));
          only_cut = λ m. subst (λ (x : Scanned). Arriving source (place_of x)) (sym p.answer) (cut_only source table edition (room_in layout old) (ap number_of (sym p.answer) ∙ m));
        }

pub scan_has_one_answer : {layout : Layout} (source table : List ℕ) (edition : ℕ) (old : List ℕ) (r q : Scanned) (new other : List ℕ)
    → ScansIn layout source table edition old r new → ScansIn layout source table edition old q other → (r ≡ q) × (new ≡ other)
scan_has_one_answer source table edition old r q new other a b = one_answer source table edition old r q new other a b

-- ---- the count

module _ (n : ℕ) (q : reading.Reading) where
  -- x counts the records that it leaves
  abbrev Counts : Scanned → Type 0
  Counts x = count_of x ≡ length (written_by x (take n q.rows))

  room_counts : Counts (by_room n 0 0 q)
  room_counts =
      split_lt n (length q.rows)
      (λ h. subst Counts (sym (not_all_fit n q h)) (sym (length-take-le n q.rows (omega arith))))
      (λ h. subst Counts (sym (all_fit n q h)) (stops q.stop (ap length (sym (take_all n q.rows h)))))
    where
      stops : (why : reading.Stop) → length q.rows ≡ length (take n q.rows) → Counts (whole n (length q.rows) (end_of 0 q.rows) why)
      stops reading.ended e = e
      stops reading.stuck e = e
      stops reading.deep e = by_test Counts (ltb (length q.rows) n) (λ _. e) (λ _. e)

counted : (source table : List ℕ) (edition n : ℕ) → count_of (scanned source table edition n) ≡ length (written source table edition n)
unfolding scanned written
counted source table edition n =
    let q : reading.Reading = reading_of source table edition in
    by_input_lem (λ x. Err (error.Refused x)) (λ (g : Scanned → Scanned). Counts n q (g (by_room n 0 0 q))) (input_check source_most source table edition) (λ _. refl)
    (room_counts n q)

pub count_is_written : (source table : List ℕ) (edition : ℕ) (old : List ℕ) (r : Scanned) (new : List ℕ) → Scans source table edition old r new
    → count_of r ≡ length (written source table edition (room old))
count_is_written source table edition old r new p = ap count_of p.answer ∙ counted source table edition (room old)

-- ---- more room

module _ (m n : ℕ) (le : m ≤ n) (q : reading.Reading) where
  -- y, in the room n, is x in the room m, if x is not refusal 4
  abbrev Agree : Scanned → Scanned → Type 0
  Agree x y = (number_of x ≡ list_full → ⊥) → (y ≡ x) × (written_by y (take n q.rows) ≡ written_by x (take m q.rows))

  room_agrees : Agree (by_room m 0 0 q) (by_room n 0 0 q)
  room_agrees =
      split_lt m (length q.rows) (λ h full. absurd (full (ap number_of (not_all_fit m q h))))
      (λ h. let i : length q.rows ≤ n = omega arith in
      subst (λ (x : Scanned). Agree x (by_room n 0 0 q)) (sym (all_fit m q h))
      (subst (Agree (whole m (length q.rows) (end_of 0 q.rows) q.stop)) (sym (all_fit n q i))
      (stops (length q.rows) (end_of 0 q.rows) q.stop (take_all n q.rows i ∙ sym (take_all m q.rows h)))))
    where
      stops : (k b : ℕ) (why : reading.Stop) → take n q.rows ≡ take m q.rows → Agree (whole m k b why) (whole n k b why)
      stops k b reading.ended e = λ _. (refl, e)
      stops k b reading.stuck e = λ _. (refl, e)
      stops k b reading.deep e =
          by_lt (λ (x : Scanned). Agree x (whole n k b reading.deep)) k m
          (λ h. subst (Agree (Err (error.ModesFull k b))) (sym (has_room n k b (omega arith))) (λ _. (refl, e))) (λ _ full. absurd (full refl))

module _ (source table : List ℕ) (edition m n : ℕ) (le : m ≤ n) where
  agree : Agree m n le (reading_of source table edition) (scanned source table edition m) (scanned source table edition n)
  unfolding scanned
  agree =
      let q : reading.Reading = reading_of source table edition in
      by_input_lem (λ x. Err (error.Refused x)) (λ (g : Scanned → Scanned). Agree m n le q (g (by_room m 0 0 q)) (g (by_room n 0 0 q)))
      (input_check source_most source table edition) (λ x _. (refl, refl)) (room_agrees m n le q)

  same_rows : (number_of (scanned source table edition m) ≡ list_full → ⊥) → written source table edition n ≡ written source table edition m
  unfolding written
  same_rows h = (agree h).1

pub scan_same_in_more_room : (source table : List ℕ) (edition : ℕ) (old more : List ℕ) (r q : Scanned) (new other : List ℕ) → Scans source table edition old r new
    → Scans source table edition more q other → room old ≤ room more → (number_of r ≡ list_full → ⊥)
    → (q ≡ r) × (other ≡ put_rows more (written source table edition (room old)))
scan_same_in_more_room source table edition old more r q new other a b le h =
    let fits : number_of (scanned source table edition (room old)) ≡ list_full → ⊥ = λ e. h (ap number_of a.answer ∙ e) in (
      b.answer ∙ (agree source table edition (room old) (room more) le fits).0 ∙ sym a.answer,
      b.words ∙ ap (put_rows more) (same_rows source table edition (room old) (room more) le fits),
    )
