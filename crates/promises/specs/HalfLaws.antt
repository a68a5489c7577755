-- The promise of `Half`, proved: `half_promise`.
-- Assumes nothing.
use Rattle.std.specs.declared.result.Result.TheVariants as result
use Rattle.std.specs.Prelude.{ℕ, ◌*◌, ◌≤◌, ◌<◌, ◌≡◌, refl, List, length, get_or, take, drop, Option, Some, Result, Err}
use Rattle.std.proofs.Common.{arith, sym, ap, subst, ◌∙◌, take_all, length-take-le}
use Rattle.base.specs.PickLaws.{split_lt}
use Rattle.base.specs.Refusal.{source_most}
use Rattle.fitness.specs.FitLaws.{fit_of}
use Rattle.input.specs.Input.{input_check}
use Rattle.input.specs.InputLaws.{fine_of}
use Rattle.input.specs.declared.Refusal.{Refusal}
use Rattle.rows.specs.declared.Row.{Row}
use Rattle.layout.specs.Layout.{words_in, room_in, row_in, shown_in}
use Rattle.layout.specs.declared.Layout.{Layout}
use Rattle.layout.specs.declared.Layout.TheVariants.{Whole, Half}
use Rattle.state.specs.State.{start_state}
use Rattle.stepping.specs.Invariant.{Ok}
use Rattle.stepping.specs.InvariantLaws.{start_ok_lem}
use Rattle.reading.specs.Reading.{Reading}
use Rattle.reading.specs.Scan.{reading_of, scanned, written, firsts_in, count_of}
use Rattle.reading.specs.ScanLaws.{room_writes, scans_refused, one_answer}
use Rattle.reading.specs.FirstsLaws.{firsts_room, firsts_rest, firsts_row, firsts_shown}
use Rattle.reading.specs.Scan.{Scanned}
use Rattle.reading.specs.declared.ScanError.TheVariants.{Refused}
use Rattle.lookahead.specs.Next.{next_of}
use Rattle.lookahead.specs.Peek.{peek_of}
use Rattle.lookahead.specs.LookAhead.{look_ahead_of}
use Rattle.lookahead.specs.AnswerLaws.{next_same, peek_same, look_same}
use Rattle.cursor.specs.declared.Cursor.{Cursor}
use Rattle.promises.specs.Scan.{Readable}
use Rattle.promises.specs.ScanLaws.{scan_promise, count_is_written}
use Rattle.promises.specs.Half.{BothScan, HalfPromise}

-- ---- lists that have the same records

-- two lists of which every record below the count is read and shown alike
record Alike (new other : List ℕ) (count : ℕ) : Type 0 where
  room : room_in Half other ≡ room_in Whole new
  rows : (i : ℕ) → i < count → row_in Half other i ≡ row_in Whole new i
  shown : (i : ℕ) → i < count → shown_in Half other count i ≡ shown_in Whole new count i

-- no record
alike_none : (new other : List ℕ) → room_in Half other ≡ room_in Whole new → Alike new other 0
alike_none new other e = record { room = e; rows = λ i h. absurd (omega arith); shown = λ i h. absurd (omega arith) }

-- what holds of the first n of some
in_both : (n i : ℕ) (xs : List Row) → i < length (take n xs) → (i < n) × (i < length xs)
in_both n i xs h =
    split_lt n (length xs)
    (λ l. let e = length-take-le n xs (omega arith) in (omega (arith, e), omega (arith, e)))
    (λ l. let e = ap length (take_all n xs l) in (omega (arith, e), omega (arith, e)))

-- the first n records of a source's reading
module _ (source table : List ℕ) (edition : ℕ) (g : Readable source table edition) (n : ℕ) where
  abbrev q : Reading
  q = reading_of source table edition

  ok : Ok source start_state
  ok = start_ok_lem source g.short g.well

  abbrev count : ℕ
  count = length (take n q.rows)

  count_most_lem : count ≤ length q.rows
  count_most_lem =
      split_lt n (length q.rows) (λ l. omega (arith, length-take-le n q.rows (omega arith))) (λ l. omega (arith, ap length (take_all n q.rows l)))

  -- in either layout
  module _ (layout : Layout) (old : List ℕ) (i : ℕ) (h : i < count) (d : Row) where
    row_in_lem : row_in layout (firsts_in layout old n q) i ≡ get_or q.rows i d
    row_in_lem = let b = in_both n i q.rows h in firsts_row source table edition (fit_of table g.fit) ok old n i d b.0 b.1 layout

    shown_in_lem : shown_in layout (firsts_in layout old n q) count i ≡ Some (get_or q.rows i d)
    shown_in_lem =
        let b = in_both n i q.rows h in
        firsts_shown source table edition (fit_of table g.fit) ok old n i d b.0 b.1 count h count_most_lem layout

  firsts_alike : (old half : List ℕ) → room_in Whole old ≡ n → room_in Half half ≡ n → Alike (firsts_in Whole old n q) (firsts_in Half half n q) count
  firsts_alike old half e f =
      record {
        room = firsts_room Half half n q (omega arith) ∙ f ∙ sym (firsts_room Whole old n q (omega arith) ∙ e);
        rows = λ i h. let d = row_in Whole old 0 in row_in_lem Half half i h d ∙ sym (row_in_lem Whole old i h d);
        shown = λ i h. let d = row_in Whole old 0 in shown_in_lem Half half i h d ∙ sym (shown_in_lem Whole old i h d);
      }

-- ---- both scans

-- what is written where no refusal comes before the work
written_fine : (source table : List ℕ) (edition n : ℕ) → input_check source_most source table edition ≡ result.Ok tt
    → written source table edition n ≡ take n (reading_of source table edition).rows
unfolding written scanned
written_fine source table edition n e = rw e (room_writes n 0 0 (reading_of source table edition) (take n (reading_of source table edition).rows))

module _ {source table : List ℕ} {edition : ℕ} {old half : List ℕ} {r q : Scanned} {new other : List ℕ} (b : BothScan source table edition old half r q new other) where
  answers : q ≡ r
  answers = b.halves.answer ∙ ap (scanned source table edition) (sym b.same_room) ∙ sym b.whole.answer

  -- what is left to prove of the lists
  record Lists : Type 0 where
    alike : Alike new other (count_of r)
    stays : drop (words_in Half * count_of r) other ≡ drop (words_in Half * count_of r) half

  -- a refusal before any work
  lists_refused : {x : Refusal} → input_check source_most source table edition ≡ Err x → Lists
  lists_refused {x} e =
      let one = one_answer source table edition old r (Err (Refused x)) new old b.whole (scans_refused e) in
      let two = one_answer source table edition half q (Err (Refused x)) other half b.halves (scans_refused e) in
      let none : count_of r ≡ 0 = ap count_of one.0 in
      record {
        alike = subst (Alike new other) (sym none) (alike_none new other (ap (room_in Half) two.1 ∙ sym b.same_room ∙ ap (room_in Whole) (sym one.1)));
        stays = ap (drop (words_in Half * count_of r)) two.1;
      }

  -- and none
  lists_read : input_check source_most source table edition ≡ result.Ok tt → Lists
  lists_read e =
      let g : Readable source table edition = fine_of source_most source table edition e in
      let n = room_in Whole old in
      let rd = reading_of source table edition in
      let one : new ≡ firsts_in Whole old n rd = (scan_promise source table edition old r new b.whole).words g in
      let two : other ≡ firsts_in Half half n rd =
      (scan_promise source table edition half q other b.halves).words g ∙ ap (λ (m : ℕ). firsts_in Half half m rd) (sym b.same_room) in
      let all : count_of r ≡ length (take n rd.rows) =
      count_is_written source table edition old r new b.whole ∙ ap length (written_fine source table edition n e) in
      record {
        alike = subst (Alike new other) (sym all)
            (subst (λ (l : List ℕ). Alike l other (length (take n rd.rows))) (sym one)
            (subst (λ (l : List ℕ). Alike (firsts_in Whole old n rd) l (length (take n rd.rows))) (sym two)
            (firsts_alike source table edition g n old half refl (sym b.same_room))));
        stays = subst (λ (k : ℕ). drop (words_in Half * k) other ≡ drop (words_in Half * k) half) (sym all)
            (ap (drop (words_in Half * length (take n rd.rows))) two ∙ firsts_rest Half half n rd);
      }

  lists : Lists
  lists = go (input_check source_most source table edition) refl
    where
      go : (c : Result (Unit {0}) Refusal) → input_check source_most source table edition ≡ c → Lists
      go (result.Ok _) e = lists_read e
      go (Err x) e = lists_refused e

  -- a cursor that counts as many
  module _ (c : Cursor) (e : c.count ≡ count_of r) where
    shown_same : (i : ℕ) → i < c.count → shown_in Half other c.count i ≡ shown_in Whole new c.count i
    shown_same = subst (λ (k : ℕ). (i : ℕ) → i < k → shown_in Half other k i ≡ shown_in Whole new k i) (sym e) lists.alike.shown

    abbrev there : ℕ → Option Row
    there = shown_in Half other c.count

    abbrev here : ℕ → Option Row
    here = shown_in Whole new c.count

    nexts : next_of (room_in Half other) there c ≡ next_of (room_in Whole new) here c
    nexts = ap (λ (m : ℕ). next_of m there c) lists.alike.room ∙ next_same (room_in Whole new) there here c shown_same

    peeks : (n : ℕ) → peek_of (room_in Half other) there c n ≡ peek_of (room_in Whole new) here c n
    peeks n = ap (λ (m : ℕ). peek_of m there c n) lists.alike.room ∙ peek_same (room_in Whole new) there here c shown_same n

    looks : (n : ℕ) → look_ahead_of (room_in Half other) there c n ≡ look_ahead_of (room_in Whole new) here c n
    looks n = ap (λ (m : ℕ). look_ahead_of m there c n) lists.alike.room ∙ look_same (room_in Whole new) there here c shown_same n

  pub half_promise : HalfPromise half r q new other
  half_promise =
      record {
        same_answer = answers;
        same_records = lists.alike.rows;
        stays = lists.stays;
        same_next = λ c e x y p s. s ∙ nexts c e ∙ sym p;
        same_peek = λ c e n x y p s. s ∙ peeks c e n ∙ sym p;
        same_look = λ c e n x y p s. s ∙ looks c e n ∙ sym p;
      }
