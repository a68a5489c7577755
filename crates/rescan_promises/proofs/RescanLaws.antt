-- The promises of `Rescan`, proved: `rescan_promise`, `rescan_means`; `UnalteredLaws` has `no_byte_alters`.
-- Assumes nothing.
use Prim.Native.Nat.{ℕ, zero, suc, ◌+◌, ◌-◌, ◌≤◌, ◌<◌}
use native.Mathlib.Omega.{arith}
use Rattle.std.specs.Prelude.{◌≡◌, List, ◌++◌, get_or, take, drop, Result, Ok, Err}
use Rattle.std.proofs.Math.Path.{refl, ap}
use Rattle.std.proofs.Common.{sym, subst, ◌∙◌, length-take-le, take-take, get_or-take}
use Rattle.std.proofs.Math.ListN.{length}
use borrow.Author.Tests.{lt-ltb, le-ltb}
use Rattle.base.specs.PickLaws.{split_lt}
use Rattle.base.specs.Refusal.{source_most}
use Rattle.property.specs.Table.{properties_at}
use Rattle.input.specs.Input.{input_check, Readable}
use Rattle.input.specs.InputLaws.{fine_of, is_fine_lem}
use Rattle.input.specs.declared.Refusal.{Refusal}
use Rattle.token.specs.Kind.{new_line}
use Rattle.rows.specs.First.{kind_in, depth_in}
use Rattle.rows.specs.Row.{room, row_at, first_at, copy_rows, put_rows_at, rows_of}
use Rattle.rows.specs.RowLaws.{rows_of_length, rows_of_at, rows_room, puts_none, copy_none, copy_room}
use Rattle.rows.specs.declared.Row.{Row}
use Rattle.text.specs.Tests.{lf}
use Rattle.state.specs.State.{start_state}
use Rattle.reading.specs.Scan.{end_of, by_room, ReadsOn, reading_of, Scans, count_of}
use Rattle.reading.specs.ScanLaws.{scans_refused, scans_fine, count_room}
use Rattle.reading.specs.Scan.{Scanned}
use Rattle.reading.specs.declared.ScanError.TheVariants.{Refused, ListFull}
use Rattle.kept.specs.Kept.{last_of, resumed, Edited, KeptTo}
use Rattle.kept.specs.OldListLaws.{old_list, old_words, old_kept}
use Rattle.kept.proofs.RescanLaws.{rescan_is_scan, short_rescan_is_scan, last_kept, up_to}
use Rattle.edit.specs.Edit.{Edits, start_of_line}
use Rattle.edit.specs.EditLaws.{edit_of_lem, fits_of, edit_inside, same_start, line_within, line_newline}
use Rattle.edit.specs.declared.Edit.{Edit}
use Rattle.keep.specs.Keep.{no_row, row_before, Keeps}
use Rattle.keep.specs.KeepLaws.{keeps_of, kept_of, last_is, over_some}
use Rattle.rescan.specs.Rescan.{within, read_behind, kept, Rescans}
use Rattle.rescan.proofs.RescanLaws.{one_answer}
use Rattle.rescan.specs.Rescan.{Rescanned}
use Rattle.rescan_promises.specs.Rescan.{Fresh, RescanPromise, RescanMeans}
use Rattle.rescan_promises.proofs.UnalteredLaws.{take_begin, begins_too}
use Rattle.rescan_promises.specs.OldWordsLaws.{rows_of_take, end_of_rows, copied_is}

pub rescan_means : (s from : List ℕ) (count : ℕ) (e : Edit) (t table : List ℕ) (edition : ℕ) → RescanMeans s from count e t table edition
rescan_means s from count e t table edition =
    record {
      edits = edit_of_lem s e t;
      fits = fits_of s e t;
      keeps = λ k. keeps_of t (start_of_line t e.place) from count k;
      kept_all = λ k. kept_of t (start_of_line t e.place) from count k;
      one_answer = λ list r q new other a b. one_answer a b;
    }

-- ---- by the old list

-- a record whose first number is that of a NewLine and nothing else
newline_parts : (l : List ℕ) (k : ℕ) → first_at l k ≡ new_line → ((row_at l k).kind ≡ new_line) × ((row_at l k).depth ≡ 0)
unfolding row_at
newline_parts l k e = (ap kind_in e, ap depth_in e)

module _ (s table : List ℕ) (edition : ℕ) (old from : List ℕ) (r : Scanned) (p : Scans s table edition old r from) (e : Edit) (t : List ℕ)
    (edits : Edits s e t) where
  abbrev count : ℕ
  count = count_of r

  abbrev line : ℕ
  line = start_of_line t e.place

  abbrev records : List Row
  records = rows_of count from

  -- the old list has room for its records
  counted : count ≤ room from
  counted =
      split_lt 0 count
      (λ h. let n : count ≤ room old = subst (λ (x : Scanned). count_of x ≤ room old) (sym p.answer) (count_room (room old) s table edition) in
      let long : length records ≡ count = rows_of_length count from in
      let same : room from ≡ room old =
      ap room (old_words s table edition old from r no_row p h) ∙ rows_room old records (omega arith) in
      omega arith)
      (λ h. omega arith)

  -- record k is the last that is kept
  module _ (k : ℕ) (keeps : Keeps t line from count k) where
    -- the newline before the line
    record Before : Type 0 where
      newline : ℕ
      edited : Edited s t newline
      kept_to_lem : KeptTo records newline k no_row

    before : Before
    before = go line refl
      where
        go : (n : ℕ) → line ≡ n → Before
        go zero q =
            let l = last_is t line (first_at from k) (row_at from k) keeps.last in
            absurd (omega (arith, l.end, over_some t (row_at from k) l.over))
        go (suc n) q =
            let l = last_is t line (first_at from k) (row_at from k) keeps.last in
            let parts = newline_parts from k l.first_number in
            let low : suc n ≤ e.place = omega (arith, line_within t e.place) in
            let in-old : n < length s = omega (arith, edits.inside) in
            let in-new : n < length t = omega (arith, edit_inside s e t edits) in
            let same : take (suc n) s ≡ take (suc n) t = same_start s e t edits (suc n) low in
            let lf-new : get_or t n 0 ≡ lf = line_newline t e.place n q in
            let lf-old : get_or s n 0 ≡ lf =
            sym (get_or-take (suc n) s n 0 (omega arith)) ∙ ap (λ (z : List ℕ). get_or z n 0) same ∙ get_or-take (suc n) t n 0 (omega arith) ∙ lf-new in
            record {
              newline = n;
              edited = record { inside = in-old; also = in-new; newline = lf-old; same = same };
              kept_to_lem = record {
                before = λ j h. let m : (get_or records j no_row).end ≡ (row_at from j).end =
                    ap (λ (x : Row). x.end) (rows_of_at count from j no_row (omega (arith, keeps.listed))) in
                    omega (arith, keeps.before j h);
                newline = ap (λ (x : Row). x.kind) (rows_of_at count from k no_row keeps.listed) ∙ parts.0;
                depth = ap (λ (x : Row). x.depth) (rows_of_at count from k no_row keeps.listed) ∙ parts.1;
              };
            }

    abbrev kept_to : List Row
    kept_to = take (suc k) records

    some : 0 < count
    some = omega (arith, keeps.listed)

    kept_long : length kept_to ≡ suc k
    kept_long = length-take-le (suc k) records (omega (arith, rows_of_length count from, keeps.listed))

    last_row : last_of no_row kept_to ≡ row_at from k
    last_row =
        last_kept records k no_row (omega (arith, rows_of_length count from, keeps.listed)) ∙ rows_of_at count from k no_row keeps.listed

    copied : (n : ℕ) (list : List ℕ) → n ≤ count → put_rows_at list 0 (take n records) ≡ copy_rows n from list
    copied n list h = copied_is n count old from list h (old_words s table edition old from r no_row p some)

    -- they begin both readings
    module _ (good : Readable source_most t table edition) where
      old_good : Readable source_most s table edition
      old_good = (old_list s table edition old from r no_row p some).readable

      old_begins : (reading_of s table edition).rows ≡ kept_to ++ drop (suc k) (reading_of s table edition).rows
      old_begins = old_kept (old_list s table edition old from r no_row p some) (suc k) keeps.listed

      same_rows : (take (suc k) (reading_of s table edition).rows ≡ rows_of (suc k) from) × (take (suc k) (reading_of t table edition).rows ≡ rows_of (suc k) from)
      same_rows =
          let whole : kept_to ≡ rows_of (suc k) from = rows_of_take (suc k) count from keeps.listed in
          let up = up_to records before.newline k no_row (omega (arith, rows_of_length count from, keeps.listed)) before.kept_to_lem.before before.kept_to_lem.newline in (
            take_begin (reading_of s table edition).rows kept_to (drop (suc k) (reading_of s table edition).rows) (suc k) kept_long old_begins ∙ whole,
            ap (λ (n : ℕ). take n (reading_of t table edition).rows) (sym kept_long)
                ∙ begins_too s t table edition old_good good before.newline before.edited kept_to (drop (suc k) (reading_of s table edition).rows) up old_begins
                ∙ whole,
          )

      -- all have room
      long : (list new : List ℕ) (y : Scanned) → suc k ≤ room list
          → ReadsOn (properties_at table) edition t (resumed (row_at from k)) (suc k) (copy_rows (suc k) from list) y new → Scans t table edition list y new
      long list new y h f =
          rescan_is_scan table edition s old from r p no_row before.newline k keeps.listed before.kept_to_lem t before.edited good list new y
          (omega (arith, kept_long))
          (subst (λ (row : Row). ReadsOn (properties_at table) edition t (resumed row) (length kept_to) (put_rows_at list 0 kept_to) y new) (sym last_row)
          (subst (λ (n : ℕ). ReadsOn (properties_at table) edition t (resumed (row_at from k)) n (put_rows_at list 0 kept_to) y new) (sym kept_long)
          (subst (λ (l : List ℕ). ReadsOn (properties_at table) edition t (resumed (row_at from k)) (suc k) l y new) (sym (copied (suc k) list keeps.listed)) f)))

      -- some have none
      short : (list : List ℕ) → room list < suc k → Scans t table edition list (Err (ListFull (room list) (row_before from (room list)).end)) (copy_rows (room list) from list)
      short list h =
          let n = room list in
          let few : take n kept_to ≡ take n records = take-take n (suc k) records (omega arith) in
          let ends : end_of 0 (take n kept_to) ≡ (row_before from n).end =
          ap (end_of 0) few ∙ end_of_rows from count n no_row (omega (arith, keeps.listed)) in
          let words : put_rows_at list 0 (take n kept_to) ≡ copy_rows n from list =
          ap (put_rows_at list 0) few ∙ copied n list (omega (arith, keeps.listed)) in
          subst (λ (b : ℕ). Scans t table edition list (Err (ListFull n b)) (copy_rows n from list)) ends
          (subst (λ (l : List ℕ). Scans t table edition list (Err (ListFull n (end_of 0 (take n kept_to)))) l) words
          (short_rescan_is_scan table edition s old from r p no_row before.newline k keeps.listed before.kept_to_lem t before.edited good list
          (omega (arith, kept_long))))

  -- ---- by what is kept

  -- the answer and the words where k records are kept
  abbrev answer_at : List ℕ → ℕ → Scanned
  answer_at list k = by_room (room list) k (row_before from (within list k)).end (read_behind (properties_at table) edition t from k)

  abbrev words_at : List ℕ → ℕ → List ℕ
  words_at list k =
      put_rows_at (copy_rows (within list k) from list) k (take (room list - k) (read_behind (properties_at table) edition t from k).rows)

  -- they fill the list behind the copied ones, which have room
  filled : (list : List ℕ) (k : ℕ) → k ≤ room from → k ≤ room list
      → ReadsOn (properties_at table) edition t (resumed (row_before from k)) k (copy_rows k from list) (answer_at list k) (words_at list k)
  filled list k f h =
      let w : within list k ≡ k = rw (le-ltb (room list) k h) in
      let same : room list ≡ room (copy_rows k from list) = sym (copy_room k from list f h) in
      let rd = read_behind (properties_at table) edition t from k in
      record {
        answer = (λ i. by_room (same i) k (row_before from (w i)).end rd);
        words = (λ i. put_rows_at (copy_rows (w i) from list) k (take (same i - k) rd.rows));
      }

  -- they have none
  over_is : (list : List ℕ) (k : ℕ) → room list < k
      → (answer_at list k ≡ Err (ListFull (room list) (row_before from (room list)).end)) × (words_at list k ≡ copy_rows (room list) from list)
  unfolding end_of
  over_is list k h =
      let rows = (read_behind (properties_at table) edition t from k).rows in
      let w : within list k ≡ room list = rw (lt-ltb (room list) k h) in
      let z : room list - k ≡ 0 = omega arith in
      let full = lt-ltb (room list) (k + length rows) (omega arith) in (
        rw (full, z) (ap (λ (n : ℕ). Err (ListFull (room list) (row_before from n).end)) w),
        ap (λ (n : ℕ). put_rows_at (copy_rows (within list k) from list) k (take n rows)) z
            ∙ puts_none (copy_rows (within list k) from list) k
            ∙ ap (λ (n : ℕ). copy_rows n from list) w,
      )

  module _ (good : Readable source_most t table edition) (list : List ℕ) where
    scans_at : (k : ℕ) → kept s from count e t table edition ≡ k → Scans t table edition list (answer_at list k) (words_at list k)
    scans_at zero q =
        scans_fine (is_fine_lem source_most t table edition good) refl
        (subst (λ (l : List ℕ). ReadsOn (properties_at table) edition t start_state 0 l (answer_at list 0) (words_at list 0)) (copy_none from list)
        (filled list 0 (omega arith) (omega arith)))
    scans_at (suc k) q =
        let keeps = keeps_of t line from count k q in
        split_lt (room list) (suc k)
        (λ h. let o = over_is list (suc k) h in
        subst (λ (x : Scanned). Scans t table edition list x (words_at list (suc k))) (sym o.0)
        (subst (Scans t table edition list (Err (ListFull (room list) (row_before from (room list)).end))) (sym o.1) (short k keeps good list h)))
        (λ h. long k keeps good list (words_at list (suc k)) (answer_at list (suc k)) h (filled list (suc k) (omega (arith, counted, keeps.listed)) h))

  fresh : (list : List ℕ) (x : Rescanned) (new : List ℕ) → Rescans s from count e t table edition list x new → Fresh t table edition list x new
  fresh list x new q = go (input_check source_most t table edition) refl
    where
      go : (c : Result (Unit {0}) Refusal) → input_check source_most t table edition ≡ c → Fresh t table edition list x new
      go (Err y) c =
          record {
            answer = Err (Refused y);
            told = q.answer ∙ rw c;
            scans = subst (Scans t table edition list (Err (Refused y))) (sym (q.words ∙ rw c)) (scans_refused c);
          }
      go (Ok _) c =
          let k = kept s from count e t table edition in
          let f = fits_of s e t edits in
          let n = le-ltb (room from) count counted in
          record {
            answer = answer_at list k;
            told = q.answer ∙ rw (c, f, n);
            scans = subst (Scans t table edition list (answer_at list k)) (sym (q.words ∙ rw (c, f, n))) (scans_at (fine_of source_most t table edition c) list k refl);
          }

  pub rescan_promise : RescanPromise s from r e t table edition
  unfolding rows_of
  rescan_promise = record { is_fresh = fresh; unaltered = λ good. go good (kept s from count e t table edition) refl }
    where
      go : Readable source_most t table edition → (k : ℕ) → kept s from count e t table edition ≡ k
          → (take k (reading_of s table edition).rows ≡ rows_of k from) × (take k (reading_of t table edition).rows ≡ rows_of k from)
      go good zero q = (refl, refl)
      go good (suc k) q = same_rows k (keeps_of t line from count k q) good
