-- The promise of `Foreign`, proved, and that no second answer fits.
--     check_list_promise, check_list_has_one_answer
--     scan_gets_yes      what a scan that ended leaves, with its count and its status, gets a yes
--     yes_hands_out      a yes means that `next` over that list hands out the reading, and that the Rust says the same
-- Assumes nothing.
use Rattle.std.specs.Prelude.{ℕ, ◌+◌, ◌-◌, ◌<◌, ◌≤◌, ◌≡◌, refl, true, false, List, ltb, length, get_or, Result, Ok, Err}
use Rattle.std.proofs.Common.{arith, sym, ap, subst, ◌∙◌, lt-ltb, le-ltb}
use Rattle.base.specs.CasesLaws.{and_yes, and_no}
use Rattle.base.specs.Pick.{pick}
use Rattle.base.specs.PickLaws.{by_test, split_lt}
use Rattle.base.specs.Refusal.{none, bad_utf8, cut_utf8, source_most}
use Rattle.utf8.specs.Meaning.{Arriving, Damaged}
use Rattle.input.specs.Input as input
use Rattle.input.specs.Input.{input_check}
use Rattle.input.specs.InputLaws.{is_long, is_none, is_table, is_bad, is_cut, is_fine_lem, fine_of, only_bad, only_cut}
use Rattle.input.specs.declared.Refusal.{Refusal}
use Rattle.input.specs.declared.Refusal.TheVariants.{TooLong, BadEdition, BadTable, BadUtf8, CutUtf8}
use Rattle.rows.specs.Row.{room, put_rows}
use Rattle.held.specs.Held.{is_row}
use Rattle.rows.specs.RowLaws.{rows_room}
use Rattle.held.specs.HeldLaws.{rows_are, rows_held}
use Rattle.rows.specs.declared.Row.{Row}
use Rattle.reading.specs.Reading as reading
use Rattle.reading.specs.Scan as scan
use Rattle.reading.specs.Scan.{end_of, reading_of, Scans}
use Rattle.reading.specs.Status.{end_number, stuck_number, status_of}
use Rattle.reading.specs.WholeLaws.{ReadWhole, end_whole, stuck_whole}
use Rattle.reading.specs.Scan.{Scanned}
use Rattle.reading.specs.declared.Scan.TheVariants as scanned
use Rattle.reading.specs.declared.ScanError.TheVariants as error
use Rattle.cursor.specs.declared.Cursor.{Cursor}
use Rattle.foreign.specs.Check.{first_apart, is_right, compared, by_reading, by_stop, list_checked, number_of, place_of}
use Rattle.foreign.specs.CheckLaws.{is_refused, is_short, is_compared}
use Rattle.foreign.specs.ApartLaws.{has, apart_is, apart_all, StatusIs, same_is, is_same, differs_is}
use Rattle.foreign.specs.Check.{Checked}
use Rattle.foreign.specs.declared.Comparison.{Comparison}
use Rattle.foreign.specs.declared.Comparison.TheVariants.{Same, Differs}
use Rattle.foreign.specs.declared.CheckError.TheVariants.{Refused, BadState}
use Rattle.promises.specs.Scan.{Readable, rows, stop}
use Rattle.promises.specs.Stream.{rust_stream}
use Rattle.layout.specs.declared.Layout.TheVariants.{Whole}
use Rattle.promises.specs.Lookahead.{HandsOut}
use Rattle.promises.proofs.LookaheadLaws.{ended_hands, stuck_hands}
use Rattle.promises.specs.Foreign.{CheckEnsures, check_says, Right, Agrees, Taken, CheckPromise, BeginsBy}

module _ (source table : List ℕ) (edition : ℕ) (list : List ℕ) (count status : ℕ) where
  abbrev n : ℕ
  n = length (rows source table edition)

  abbrev apart : ℕ
  apart = first_apart list count 0 (rows source table edition)

  -- ---- where the records first differ

  -- the records before i are the list's, and it has so many
  each : (i : ℕ) → i ≤ count → Agrees source table edition list count status i → (j : ℕ) (d : Row) → j < i
      → has list count (0 + j) (get_or (rows source table edition) j d) ≡ true
  each i le a j d lt =
      let z : 0 + j ≡ j = omega arith in
      rw z (and_yes _ _ _ (lt-ltb j count (omega arith)) (a j d lt))

  apart_at : (i : ℕ) → i ≤ count → i ≤ n → Agrees source table edition list count status i
      → (i < n → (d : Row) → has list count (0 + i) (get_or (rows source table edition) i d) ≡ false) → apart ≡ i
  apart_at i le k a stops = apart_is list count 0 (rows source table edition) i k (each i le a) stops ∙ omega arith

  -- ---- 3 and 15

  -- what is answered where no refusal comes before the work
  abbrev worked : Checked
  worked = pick (ltb (room list) count) (Err BadState) (by_reading list count status (reading_of source table edition))

  abbrev Works : Checked → Type 0
  Works x = (number_of x ≡ bad_utf8 → ⊥) × (number_of x ≡ cut_utf8 → ⊥)

  works : Works worked
  works =
      by_test Works (ltb (room list) count) (λ _. (λ m. omega arith, λ m. omega arith)) (λ _. stops (stop source table edition))
    where
      told : (c : Comparison) → Works (Ok c)
      told c = (λ m. omega arith, λ m. omega arith)

      stops : (why : reading.Stop) → Works (by_stop count status n apart (end_of 0 (rows source table edition)) why)
      stops reading.ended = told (compared count status n apart end_number)
      stops reading.stuck = told (compared count status n apart stuck_number)
      stops reading.deep = (λ m. omega arith, λ m. omega arith)

  bad_only : number_of (list_checked source table edition list count status) ≡ bad_utf8
      → Damaged source (place_of (list_checked source table edition list count status))
  unfolding list_checked
  bad_only = only_bad source_most source table edition (λ x. Err (Refused x)) number_of place_of worked (λ x. refl) (λ x. refl) works.0

  cut_only : number_of (list_checked source table edition list count status) ≡ cut_utf8
      → Arriving source (place_of (list_checked source table edition list count status))
  unfolding list_checked
  cut_only = only_cut source_most source table edition (λ x. Err (Refused x)) number_of place_of worked (λ x. refl) (λ x. refl) works.1

  -- ---- by what the checks say

  module _ (r : Checked) (p : CheckEnsures source table edition list count status r) where
    -- no refusal comes before the work
    by_reading_lem : Readable source table edition → count ≤ room list → r ≡ by_reading list count status (reading_of source table edition)
    by_reading_lem g h = p ∙ sym (is_compared source table edition list count status (is_fine_lem source_most source table edition g) h refl)

    named : Taken source table edition list count status → {i : ℕ} → apart ≡ i
        → (apart ≡ n → count ≡ n → StatusIs (stop source table edition) status → ⊥) → r ≡ Ok (Differs i)
    named t e f =
        by_reading_lem t.readable t.has_room
        ∙ differs_is count status n apart (end_of 0 (rows source table edition)) (stop source table edition) t.not_deep f
        ∙ ap (λ (j : ℕ). Ok (Differs j)) e

    is_right_lem : Right source table edition list count status → r ≡ Ok Same
    is_right_lem g =
        let a : Agrees source table edition list count status n =
        λ j d lt. subst (λ (l : List ℕ). is_row l j (get_or (rows source table edition) j d) ≡ true) g.records (rows_are list (rows source table edition) j d lt) in
        by_reading_lem g.readable g.has_room
        ∙ same_is count status n apart (end_of 0 (rows source table edition)) (stop source table edition)
        (apart_at n (omega (arith, g.counted)) (omega arith) a (λ lt. absurd (omega arith))) g.counted g.ends

    only_right : r ≡ Ok Same → Right source table edition list count status
    only_right e = by_input_lem (input_check source_most source table edition) refl
      where
        answered : Ok Same ≡ list_checked source table edition list count status
        answered = sym e ∙ p

        all_right : input_check source_most source table edition ≡ Ok tt → count ≤ room list → Right source table edition list count status
        all_right f h =
            let all = is_same count status n apart (end_of 0 (rows source table edition)) (stop source table edition)
            (is_compared source table edition list count status f h refl ∙ sym answered) in
            record {
              readable = fine_of source_most source table edition f;
              has_room = h;
              counted = all.1;
              records = rows_held list (rows source table edition) (omega (arith, all.1))
                  (λ i d lt. let z : i ≡ 0 + i = omega arith in
                  ap (λ (m : ℕ). is_row list m (get_or (rows source table edition) i d)) z
                  ∙ apart_all list count 0 (rows source table edition) (omega (arith, all.0)) i d lt);
              ends = all.2;
            }

        by_input_lem : (c : Result (Unit {0}) Refusal) → input_check source_most source table edition ≡ c → Right source table edition list count status
        by_input_lem (Ok _) f =
            split_lt (room list) count
            (λ h. let q : ◌≡◌ {A = Checked} (Ok Same) (Err BadState) = answered ∙ sym (is_short source table edition list count status f h) in
            let z : ◌≡◌ {A = ℕ} 0 1 = cc in absurd (omega arith))
            (all_right f)
        by_input_lem (Err x) f =
            let q : ◌≡◌ {A = Checked} (Ok Same) (Err (Refused x)) = answered ∙ sym (is_refused source table edition list count status f) in
            let z : ◌≡◌ {A = ℕ} 0 1 = cc in absurd (omega arith)

    -- a refusal before the work
    refused : {x : Checked} → x ≡ list_checked source table edition list count status → check_says r ≡ check_says x
    refused q = ap check_says (p ∙ sym q)

    pub check_list_promise : CheckPromise source table edition list count status r
    check_list_promise =
        record {
          too_long_lem = λ h. refused (is_refused source table edition list count status (is_long source_most source table edition h));
          bad_edition_lem = λ h k. refused (is_refused source table edition list count status (is_none source_most source table edition h k));
          bad_table_lem = λ h k i e. refused (is_refused source table edition list count status (is_table source_most source table edition h k i e));
          bad_utf8_lem = λ h k f i w. refused (is_refused source table edition list count status (is_bad source_most source table edition h k f i w));
          cut_utf8_lem = λ h k f i w. refused (is_refused source table edition list count status (is_cut source_most source table edition h k f i w));
          list_short = λ g h. refused (is_short source table edition list count status (is_fine_lem source_most source table edition g) h);
          modes_full_lem = λ g h e. ap check_says (by_reading_lem g h ∙ ap (by_stop count status n apart (end_of 0 (rows source table edition))) e);
          right = is_right_lem;
          only_right = only_right;
          first_record = λ t i lt less a f.
              let e : apart ≡ i = apart_at i (omega arith) (omega arith) a
              (λ _ d. let z : 0 + i ≡ i = omega arith in rw z (and_yes _ _ _ (lt-ltb i count lt) (f d))) in
              named t e (λ q _ _. omega arith);
          fewer = λ t a lt.
              named t (apart_at count (omega arith) (omega arith) a
              (λ _ d. let z : 0 + count ≡ count = omega arith in rw z (and_no _ _ (le-ltb count count (omega arith))))) (λ _ e _. omega arith);
          more = λ t a lt. named t (apart_at n (omega arith) (omega arith) a (λ less. absurd (omega arith))) (λ _ e _. omega arith);
          other_status = λ t a e f. named t (apart_at count (omega arith) (omega arith) a (λ less. absurd (omega arith))) (λ _ _ s. f s);
          only_bad = λ m. subst (λ (x : Checked). Damaged source (place_of x)) (sym p) (bad_only (ap number_of (sym p) ∙ m));
          only_cut = λ m. subst (λ (x : Checked). Arriving source (place_of x)) (sym p) (cut_only (ap number_of (sym p) ∙ m));
        }

pub check_list_has_one_answer : (source table : List ℕ) (edition : ℕ) (list : List ℕ) (count status : ℕ) (r q : Checked)
    → CheckEnsures source table edition list count status r → CheckEnsures source table edition list count status q → r ≡ q
check_list_has_one_answer source table edition list count status r q e f = e ∙ sym f

-- ---- what a scan leaves

module _ (source table : List ℕ) (edition : ℕ) (old new : List ℕ) where
  left_right : (m status : ℕ) (why : reading.Stop) → ReadWhole source table edition (room old) m why
      → new ≡ put_rows old (rows source table edition) → StatusIs why status → Right source table edition new m status
  left_right m status why w q s =
      let same : room new ≡ room old = ap room q ∙ rows_room old (rows source table edition) (omega (arith, w.counted, w.has_room)) in
      record {
        readable = w.readable;
        has_room = omega (arith, w.has_room);
        counted = w.counted;
        records = rows_held new (rows source table edition) (omega (arith, w.counted, w.has_room))
            (λ i d lt. subst (λ (l : List ℕ). is_row l i (get_or (rows source table edition) i d) ≡ true) (sym q) (rows_are old (rows source table edition) i d lt));
        ends = subst (λ (x : reading.Stop). StatusIs x status) (sym w.stops) s;
      }

  pub scan_gets_yes : (r : Scanned) → Scans source table edition old r new → scan.number_of r ≡ none → (x : Checked)
      → CheckEnsures source table edition new (scan.count_of r) (status_of r) x → x ≡ Ok Same
  scan_gets_yes (Ok (scanned.End m b)) p e x q =
      let w = end_whole source table edition old new m b p in
      is_right_lem source table edition new m end_number x q (left_right m end_number reading.ended w.0 w.1 refl)
  scan_gets_yes (Ok (scanned.Stuck m b)) p e x q =
      let w = stuck_whole source table edition old new m b p in
      is_right_lem source table edition new m stuck_number x q (left_right m stuck_number reading.stuck w.0 w.1 refl)
  scan_gets_yes (Err (error.Refused y)) p e x q = absurd (told y e)
    where
      told : (y : Refusal) → input.number_of y ≡ none → ⊥
      told TooLong e = omega arith
      told BadEdition e = omega arith
      told (BadTable i) e = omega arith
      told (BadUtf8 i) e = omega arith
      told (CutUtf8 i) e = omega arith
  scan_gets_yes (Err (error.ListFull m b)) p e x q = absurd (omega arith)
  scan_gets_yes (Err (error.ModesFull m b)) p e x q = absurd (omega arith)

-- ---- what a yes means

module _ (source table : List ℕ) (edition : ℕ) (list : List ℕ) (count status : ℕ) where
  right_hands_out : Right source table edition list count status → (c : Cursor) → BeginsBy count status c
      → HandsOut Whole list (rows source table edition) (rust_stream source table edition) c
  right_hands_out g c k = by_stop_lem (stop source table edition) refl g.ends
    where
      read : {why : reading.Stop} → stop source table edition ≡ why → ReadWhole source table edition (room list) count why
      read e = record { readable = g.readable; counted = g.counted; has_room = g.has_room; stops = e }

      by_stop_lem : (why : reading.Stop) → stop source table edition ≡ why → StatusIs why status
          → HandsOut Whole list (rows source table edition) (rust_stream source table edition) c
      by_stop_lem reading.ended e s = ended_hands source table edition list list count c (read e) (sym g.records) (k.at_end s)
      by_stop_lem reading.stuck e s = stuck_hands source table edition list list count c (read e) (sym g.records) (k.at_stuck s)
      by_stop_lem reading.deep e s = absurd s

  pub yes_hands_out : CheckEnsures source table edition list count status (Ok Same) → (c : Cursor) → BeginsBy count status c
      → HandsOut Whole list (rows source table edition) (rust_stream source table edition) c
  yes_hands_out p = right_hands_out (only_right source table edition list count status (Ok Same) p refl)
