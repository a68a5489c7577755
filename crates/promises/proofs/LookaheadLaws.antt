-- The promises of `Lookahead`, proved, and that no second answer fits.
--     next_promise, next_has_one_answer
--     peek_promise, peek_has_one_answer
--     ended_hands, stuck_hands    over a list in either layout that starts with the records of a source
--     after_a_scan    after an unrefused scan 8 and 9 are never given, the definition's tokens are handed out, and the Rust says the same:
--                     its `KotoLexer` over its own stream of the source
-- Assumes nothing.
use Rattle.std.specs.Prelude.{ℕ, ◌+◌, ◌-◌, ◌<◌, ◌≤◌, ◌≡◌, Bool, true, List, length, get_or, Option, Some, None, Err, Ok}
use Rattle.std.proofs.Common.{add-zero, ap, subst, ◌∙◌, ltb-true, leb-true, lt-ltb, le-leb}
use native.Mathlib.Omega.{arith}
use Rattle.std.proofs.Math.Path.{refl, sym}
use Rattle.std.proofs.Math.Bool.{false}
use Rattle.std.proofs.lemmas.Bool.{lt-leb}
use Rattle.base.specs.PickLaws.{split_lt}
use Rattle.property.specs.Table.{properties_at}
use Rattle.fitness.specs.FitLaws as property
use Rattle.rows.specs.declared.Row.{Row}
use Rattle.layout.specs.Layout.{room_in, row_in, fits_in, shown_in}
use Rattle.layout.specs.LayoutLaws.{shown_fit, shown_unfit}
use Rattle.layout.specs.declared.Layout.{Layout}
use Rattle.state.specs.State.{start_state}
use Rattle.stepping.specs.InvariantLaws.{start_ok_lem}
use Rattle.reading.specs.Reading.{Stop, ended, stuck, Reading}
use Rattle.reading.specs.Scan.{reading_of, firsts_in, holds_in, ScansIn}
use Rattle.reading.specs.ShownLaws.{stuck_some}
use Rattle.reading.specs.FirstsLaws.{firsts_all, firsts_room, firsts_shown}
use Rattle.reading.specs.WholeLaws.{ReadWhole, end_whole, stuck_whole}
use Rattle.reading.specs.Scan.{Scanned}
use Rattle.reading.specs.declared.Scan.TheVariants as scan
use Rattle.cursor.specs.Cursor.{queue_most, fit_by, is_fit, start_cursor, record_at, ahead, moved_on, has_more, must_queue, queued_one}
use Rattle.cursor.specs.CursorLaws as cursor
use Rattle.cursor.specs.CursorLaws.{fits_of, fit_of, record_at_lem, record_in, start_fits, queued_fits, taken_held, queued_there}
use Rattle.lookahead.specs.Next.{next_of, Given, handed}
use Rattle.lookahead.specs.Peek.{queued_at, peek_of, Peeked, looked}
use Rattle.lookahead.specs.AnswerLaws.{next_row, next_bad, next_none, queued_row, queued_bad, queued_none}
use Rattle.lookahead.specs.AnswerLaws.{peek_far, peek_as_is, peek_full, peek_more}
use Rattle.lookahead.specs.declared.NextError.TheVariants as given
use Rattle.lookahead.specs.declared.LookError.TheVariants as peeked
use Rattle.cursor.specs.declared.Status.{Status}
use Rattle.cursor.specs.declared.Status.TheVariants.{End, Stuck}
use Rattle.cursor.specs.declared.Cursor.{Cursor}
use Rattle.queue.specs.Queue.{Stream, new_lexer, get}
use Rattle.queue.specs.Calls.{Call, next, nexts, Shows, Stands, rust_after, Streams, Mirrors}
use Rattle.queue.specs.StreamLaws.{get_in, get_past, shows_by}
use Rattle.queue.proofs.QueueLaws.{start_mirrors, calls_agree, calls_mirror, far_underflows, full_queued}
use Rattle.queue.specs.CallsLaws as laws
use Rattle.queue.specs.CallsLaws.{start_stands, calls_stand}
use Rattle.promises.specs.Stream.{rust_stream}
use Rattle.promises.proofs.StreamLaws.{stream_promise}
use Rattle.promises.specs.Lookahead.{Unfit, list_short, taken_over, queued_past_end, stuck_all_taken, queued_over}
use Rattle.promises.specs.Lookahead.{More, left, again, NextEnsures, given_says, handed_on, NextPromise}
use Rattle.promises.specs.Lookahead.{PeekEnsures, peeked_says, Queues, one_more_lem, no_more, next_one, PeekPromise}
use Rattle.promises.specs.Lookahead.{call_on, after_on, UnrefusedOn, BeginsAt, HandsOut}

-- ---- which cursors are fit

no_true : (t : Bool) → (t ≡ true → ⊥) → t ≡ false
no_true true f = absurd (f refl)
no_true false f = refl

module _ (layout : Layout) (list : List ℕ) (c : Cursor) where
  never_fit : Unfit layout list c → is_fit (room_in layout list) c ≡ true → ⊥
  never_fit (list_short h) f = omega (arith, (fits_of (room_in layout list) c f).count)
  never_fit (taken_over h) f = omega (arith, (fits_of (room_in layout list) c f).taken)
  never_fit (queued_past_end e h) f =
      let t : fit_by c End ≡ true = rw e at (fits_of (room_in layout list) c f).by_status_lem in
      omega (arith, leb-true c.queued (c.count - c.taken) t)
  never_fit (stuck_all_taken e h) f =
      let t : fit_by c Stuck ≡ true = rw e at (fits_of (room_in layout list) c f).by_status_lem in omega (arith, ltb-true c.taken c.count t)
  never_fit (queued_over h) f = omega (arith, (fits_of (room_in layout list) c f).queued)

  pub unfit_is : Unfit layout list c → is_fit (room_in layout list) c ≡ false
  unfit_is u = no_true (is_fit (room_in layout list) c) (never_fit u)

  pub fit_is : (Unfit layout list c → ⊥) → is_fit (room_in layout list) c ≡ true
  fit_is n =
      fit_of (room_in layout list) c (record {
        count = split_lt (room_in layout list) c.count (λ h. absurd (n (list_short h))) (λ h. h);
        taken = split_lt c.count c.taken (λ h. absurd (n (taken_over h))) (λ h. h);
        queued = split_lt queue_most c.queued (λ h. absurd (n (queued_over h))) (λ h. h);
        by_status_lem = go c.status refl;
      })
    where
      go : (s : Status) → c.status ≡ s → fit_by c s ≡ true
      go End e =
          split_lt (c.count - c.taken) c.queued (λ h. absurd (n (queued_past_end e h)))
          (λ h. le-leb c.queued (c.count - c.taken) h)
      go Stuck e = split_lt c.taken c.count (λ h. lt-ltb c.taken c.count h) (λ h. absurd (n (stuck_all_taken e h)))

-- ---- `next`

module _ (layout : Layout) (list : List ℕ) (c : Cursor) (n : Unfit layout list c → ⊥) where
  -- the record that comes next
  first : ahead c 0 ≡ c.taken
  first = ap (record_at c.count c.status) (add-zero c.taken) ∙ taken_held (room_in layout list) c (fit_is layout list c n)

  -- the cursor after it
  moved_to : (taken : ℕ) → ahead c 1 ≡ taken → moved_on c ≡ handed_on c taken
  unfolding moved_on
  moved_to taken e = rw e

  given_to : (taken : ℕ) → c.taken < c.count → fits_in layout list c.count c.taken ≡ true → ahead c 1 ≡ taken
      → next_of (room_in layout list) (shown_in layout list c.count) c ≡ handed (row_in layout list c.taken) (handed_on c taken)
  given_to taken h t e =
      sym (next_row (room_in layout list) (shown_in layout list c.count) c (fit_is layout list c n) first h (shown_fit layout list c.count c.taken t)) ∙ ap (handed (row_in layout list c.taken)) (moved_to taken e)

unfit_next : (layout : Layout) (list : List ℕ) (c : Cursor) → is_fit (room_in layout list) c ≡ false → next_of (room_in layout list) (shown_in layout list c.count) c ≡ Err given.BadState
unfolding next_of
unfit_next layout list c f = rw f

-- the place that is meant, by the status
ahead_by : (c : Cursor) (n : ℕ) (s : Status) → c.status ≡ s → ahead c n ≡ record_at c.count s (c.taken + n)
ahead_by c n s e = rw e

pub next_promise : (layout : Layout) (list : List ℕ) (c : Cursor) (r : Given) → NextEnsures layout list c r → NextPromise layout list c r
next_promise layout list c r e =
    record {
      unfit = λ u. ap given_says (e ∙ unfit_next layout list c (unfit_is layout list c u));
      nothing_left = λ n h. e ∙ sym (next_none (room_in layout list) (shown_in layout list c.count) c (fit_is layout list c n) (first layout list c n) (omega arith));
      bad_record_lem = λ n h t. ap given_says
          (e ∙ sym (next_bad (room_in layout list) (shown_in layout list c.count) c (fit_is layout list c n) (first layout list c n) h (shown_unfit layout list c.count c.taken t)));
      at_end = λ n s h t. e
          ∙ given_to layout list c n (c.taken + 1) h t (ahead_by c 1 End s ∙ omega (arith, record_at_lem c.count End (c.taken + 1)));
      at_stuck = λ n s h t. e
          ∙ given_to layout list c n (c.taken + 1) (omega arith) t
          (ahead_by c 1 Stuck s ∙ omega (arith, record_at_lem c.count Stuck (c.taken + 1)));
      at_last = λ n s h t. e
          ∙ given_to layout list c n c.taken (omega arith) t (ahead_by c 1 Stuck s ∙ omega (arith, record_at_lem c.count Stuck (c.taken + 1)));
    }

pub next_has_one_answer : (layout : Layout) (list : List ℕ) (c : Cursor) (r q : Given) → NextEnsures layout list c r → NextEnsures layout list c q → r ≡ q
next_has_one_answer layout list c r q e f = e ∙ sym f

-- ---- `peek`

unfit_peek : (layout : Layout) (list : List ℕ) (c : Cursor) (n : ℕ) → is_fit (room_in layout list) c ≡ false → peek_of (room_in layout list) (shown_in layout list c.count) c n ≡ Err peeked.BadState
unfolding peek_of
unfit_peek layout list c n f = rw f

-- whether there is more, as the document says it and as the definition tests it
module _ (layout : Layout) (list : List ℕ) (c : Cursor) (f : is_fit (room_in layout list) c ≡ true) where
  more_is : More c → has_more c ≡ true
  more_is (left h) = lt-ltb (ahead c c.queued) c.count (omega (arith, record_at_lem c.count c.status (c.taken + c.queued)))
  more_is (again e) =
      lt-ltb (ahead c c.queued) c.count
      (subst (λ (s : Status). record_at c.count s (c.taken + c.queued) < c.count) (sym e)
      (record_in c.count (c.taken + c.queued) (cursor.stuck_some (room_in layout list) c f e)))

  is_more : has_more c ≡ true → More c
  is_more t = go c.status refl
    where
      below : ahead c c.queued < c.count
      below = ltb-true (ahead c c.queued) c.count t

      go : (s : Status) → c.status ≡ s → More c
      go End e =
          let b : record_at c.count End (c.taken + c.queued) < c.count = rw e at below in
          left (omega (arith, record_at_lem c.count End (c.taken + c.queued)))
      go Stuck e = again e

  must : (n : ℕ) → n ≤ c.queued → More c → must_queue c n ≡ true
  unfolding must_queue
  must n h m = rw (le-leb n c.queued h, more_is m)

  must_not : (n : ℕ) → n ≤ c.queued → (More c → ⊥) → must_queue c n ≡ false
  unfolding must_queue
  must_not n h m = let t : has_more c ≡ false = no_true (has_more c) (λ e. m (is_more e)) in rw (le-leb n c.queued h, t)

  must_past : (n : ℕ) → c.queued < n → must_queue c n ≡ false
  unfolding must_queue
  must_past n h = rw (lt-leb n c.queued h)

  -- what is queued for a look at n
  pub record Looks (n : ℕ) (d : Cursor) : Type 0 where
    pub answer : peek_of (room_in layout list) (shown_in layout list c.count) c n ≡ queued_at (shown_in layout list c.count) d n
    pub fit : is_fit (room_in layout list) d ≡ true
    pub same : ahead d n ≡ ahead c n

  looks : (n : ℕ) (d : Cursor) → Queues c n d → Looks n d
  unfolding queued_one
  looks n d (one_more_lem h m q) =
      let no : c.queued ≡ queue_most → ⊥ = λ e. omega arith in
      record {
        answer = sym (peek_more (room_in layout list) (shown_in layout list c.count) c n f (omega arith) (must n h m) no);
        fit = queued_fits (room_in layout list) c f (more_is m) no;
        same = refl;
      }
  looks n d (no_more h m) = record { answer = sym (peek_as_is (room_in layout list) (shown_in layout list c.count) c n f (omega arith) (must_not n h m)); fit = f; same = refl }
  looks n d (next_one e) = record { answer = sym (peek_as_is (room_in layout list) (shown_in layout list c.count) c n f (omega arith) (must_past n (omega arith))); fit = f; same = refl }

  -- the answer for such a look
  module _ (n : ℕ) (d : Cursor) (l : Looks n d) where
    look_none : d.queued ≤ n → peek_of (room_in layout list) (shown_in layout list c.count) c n ≡ looked None d
    look_none h = l.answer ∙ sym (queued_none (shown_in layout list c.count) d n h)

    module _ (h : n < d.queued) where
      there : ahead c n < d.count
      there = subst (λ (i : ℕ). i < d.count) l.same (queued_there (room_in layout list) d l.fit n h)

      look_bad : fits_in layout list c.count (ahead c n) ≡ false → peek_of (room_in layout list) (shown_in layout list c.count) c n ≡ Err (peeked.BadRecord (ahead c n))
      look_bad t = l.answer ∙ sym (queued_bad (shown_in layout list c.count) d n l.same there h (shown_unfit layout list c.count (ahead c n) t))

      look_row : fits_in layout list c.count (ahead c n) ≡ true → peek_of (room_in layout list) (shown_in layout list c.count) c n ≡ looked (Some (row_in layout list (ahead c n))) d
      look_row t = l.answer ∙ sym (queued_row (shown_in layout list c.count) d n l.same there h (shown_fit layout list c.count (ahead c n) t))

pub peek_promise : (layout : Layout) (list : List ℕ) (c : Cursor) (n : ℕ) (r : Peeked) → PeekEnsures layout list c n r → PeekPromise layout list c n r
peek_promise layout list c n r e =
    record {
      unfit = λ u. ap peeked_says (e ∙ unfit_peek layout list c n (unfit_is layout list c u));
      too_far = λ f h. ap peeked_says (e ∙ sym (peek_far (room_in layout list) (shown_in layout list c.count) c n (fit_is layout list c f) h));
      full = λ f h m q. let g = fit_is layout list c f in ap peeked_says (e ∙ sym (peek_full (room_in layout list) (shown_in layout list c.count) c n g (omega arith) (must layout list c g n h m) q));
      nothing = λ f d l h. let g = fit_is layout list c f in e ∙ look_none layout list c g n d (looks layout list c g n d l) h;
      bad_record_lem = λ f d l h t. let g = fit_is layout list c f in ap peeked_says (e ∙ look_bad layout list c g n d (looks layout list c g n d l) h t);
      shown = λ f d l h t. let g = fit_is layout list c f in e ∙ look_row layout list c g n d (looks layout list c g n d l) h t;
      place_at_end = λ s h. ahead_by c n End s ∙ omega (arith, record_at_lem c.count End (c.taken + n));
      place_at_stuck = λ s h. ahead_by c n Stuck s ∙ omega (arith, record_at_lem c.count Stuck (c.taken + n));
      place_past = λ s h. ahead_by c n Stuck s ∙ omega (arith, record_at_lem c.count Stuck (c.taken + n));
    }

pub peek_has_one_answer : (layout : Layout) (list : List ℕ) (c : Cursor) (n : ℕ) (r q : Peeked) → PeekEnsures layout list c n r → PeekEnsures layout list c n q → r ≡ q
peek_has_one_answer layout list c n r q e f = e ∙ sym f

-- ---- after a scan

-- the record of a place
module _ (rows : List Row) (status : Status) (i : ℕ) where
  -- its own
  place_in : i < length rows → record_at (length rows) status i ≡ i
  place_in h = go status
    where
      go : (s : Status) → record_at (length rows) s i ≡ i
      go End = omega (arith, record_at_lem (length rows) End i)
      go Stuck = omega (arith, record_at_lem (length rows) Stuck i)

  -- and past the last none at End
  place_ended : status ≡ End → length rows ≤ i → record_at (length rows) status i ≡ length rows
  place_ended e h = rw e (omega (arith, record_at_lem (length rows) End i))

  -- and that of the last at Stuck
  place_last : status ≡ Stuck → 0 < length rows → length rows ≤ i → record_at (length rows) status i ≡ length rows - 1
  place_last e k h = rw e (omega (arith, record_at_lem (length rows) Stuck i))

-- a list that has room for these rows, and shows each of them
module _ (layout : Layout) (list : List ℕ) (rows : List Row) (status : Status) (h : length rows ≤ room_in layout list)
    (shown : (i : ℕ) (d : Row) → i < length rows → shown_in layout list (length rows) i ≡ Some (get_or rows i d)) (some-stuck : status ≡ Stuck → 0 < length rows)
    (stream : Stream) (same : Streams stream rows status) where
  abbrev count : ℕ
  count = length rows

  abbrev begin : Cursor
  begin = start_cursor count status

  abbrev room : ℕ
  room = room_in layout list

  abbrev at : ℕ → Option Row
  at = shown_in layout list count

  begins_fit : is_fit room begin ≡ true
  begins_fit = start_fits room count status h some-stuck

  shows : Shows at rows
  shows = shows_by at rows shown

  stands : (calls : List Call) → Stands room count status (0 + nexts calls) (after_on layout list count begin calls)
  stands = calls_stand room at rows status shows 0 begin (start_stands room count status begins_fit)

  next_is_lem : (calls : List Call) → (call_on layout list count (after_on layout list count begin calls) next).token ≡ get rows (record_at count status (nexts calls))
  next_is_lem calls =
      let z : 0 + nexts calls ≡ nexts calls = omega arith in
      (laws.next_token_lem room at rows status shows (0 + nexts calls) (after_on layout list count begin calls) (stands calls)).1
      ∙ ap (λ (i : ℕ). get rows (record_at count status i)) z

  begins : Mirrors room rows status begin new_lexer
  begins = start_mirrors room rows status begins_fit

  mirrors : (calls : List Call) → UnrefusedOn layout list count begin calls
      → Mirrors room rows status (after_on layout list count begin calls) (rust_after stream new_lexer calls)
  mirrors = calls_mirror room at stream rows status shows same begin new_lexer begins

  hands_out : HandsOut layout list rows stream begin
  hands_out =
      record {
        never_refused = λ calls.
            laws.never_refused room at rows status shows (0 + nexts calls) (after_on layout list count begin calls) (stands calls);
        in_order = λ calls d k. next_is_lem calls ∙ ap (get rows) (place_in rows status (nexts calls) k) ∙ get_in rows (nexts calls) d k;
        ended = λ e calls k. next_is_lem calls ∙ ap (get rows) (place_ended rows status (nexts calls) e k) ∙ get_past rows count (omega arith);
        endless = λ e calls d k. next_is_lem calls
            ∙ ap (get rows) (place_last rows status (nexts calls) e (some-stuck e) k)
            ∙ get_in rows (count - 1) d (omega (arith, some-stuck e));
        as_in_rust = calls_agree room at stream rows status shows same begin new_lexer begins;
        too_far = λ calls u. far_underflows room at stream rows status shows same (after_on layout list count begin calls) _ (mirrors calls u);
        full = λ calls u. full_queued room at stream rows status shows same (after_on layout list count begin calls) _ (mirrors calls u);
      }

-- the rows of a source that is read whole, and put into a list
module _ (layout : Layout) (source table : List ℕ) (edition : ℕ) (old : List ℕ) (n : ℕ) (stop : Stop)
    (w : ReadWhole source table edition (room_in layout old) n stop) where
  abbrev q : Reading
  q = reading_of source table edition

  abbrev holds : List ℕ
  holds = holds_in layout old q

  are_all : firsts_in layout old (room_in layout old) q ≡ holds
  are_all = firsts_all layout old (room_in layout old) q (omega (arith, w.counted, w.has_room))

  holds_room : room_in layout holds ≡ room_in layout old
  holds_room = ap (room_in layout) (sym are_all) ∙ firsts_room layout old (room_in layout old) q (omega arith)

  holds_shown : (i : ℕ) (d : Row) → i < length q.rows → shown_in layout holds (length q.rows) i ≡ Some (get_or q.rows i d)
  holds_shown i d h =
      ap (λ (l : List ℕ). shown_in layout l (length q.rows) i) (sym are_all)
      ∙ firsts_shown source table edition (property.fit_of table w.readable.fit) (start_ok_lem source w.readable.short w.readable.well)
      old (room_in layout old) i d (omega (arith, w.counted, w.has_room)) h (length q.rows) h (omega arith) layout

module _ {layout : Layout} (source table : List ℕ) (edition : ℕ) (old new : List ℕ) where
  -- from what was read whole and written
  from_whole : (n : ℕ) (stop : Stop) (status : Status) (c : Cursor) → ReadWhole source table edition (room_in layout old) n stop
      → new ≡ holds_in layout old (reading_of source table edition) → c ≡ start_cursor n status → (status ≡ Stuck → stop ≡ stuck)
      → Streams (rust_stream source table edition) (reading_of source table edition).rows status → HandsOut layout new (reading_of source table edition).rows (rust_stream source table edition) c
  from_whole n stop status c w p e k same =
      let rows : List Row = (reading_of source table edition).rows in
      let begin : c ≡ start_cursor (length rows) status = e ∙ ap (λ (m : ℕ). start_cursor m status) w.counted in
      let Some : status ≡ Stuck → 0 < length rows =
      λ s. stuck_some (properties_at table) edition source start_state (w.stops ∙ k s) in
      let list : List ℕ = holds_in layout old (reading_of source table edition) in
      let has_room : length rows ≤ room_in layout list =
      omega (arith, w.counted, w.has_room, holds_room layout source table edition old n stop w) in
      subst (λ (l : List ℕ). HandsOut layout l rows (rust_stream source table edition) c) (sym p)
      (subst (HandsOut layout list rows (rust_stream source table edition)) (sym begin)
      (hands_out layout list rows status has_room (holds_shown layout source table edition old n stop w) Some (rust_stream source table edition) same))

  -- to its end, and until it stood still
  pub ended_hands : (n : ℕ) (c : Cursor) → ReadWhole source table edition (room_in layout old) n ended
      → new ≡ holds_in layout old (reading_of source table edition) → c ≡ start_cursor n End
      → HandsOut layout new (reading_of source table edition).rows (rust_stream source table edition) c
  ended_hands n c w p e =
      from_whole n ended End c w p e (λ s. absurd (let z : ◌≡◌ {A = ℕ} 0 1 = cc in omega arith))
      ((stream_promise source table edition w.readable).at_end w.stops)

  pub stuck_hands : (n : ℕ) (c : Cursor) → ReadWhole source table edition (room_in layout old) n stuck
      → new ≡ holds_in layout old (reading_of source table edition) → c ≡ start_cursor n Stuck
      → HandsOut layout new (reading_of source table edition).rows (rust_stream source table edition) c
  stuck_hands n c w p e =
      from_whole n stuck Stuck c w p e (λ s. refl) ((stream_promise source table edition w.readable).at_stuck w.stops)

  pub after_a_scan : (r : Scanned) → ScansIn layout source table edition old r new → (c : Cursor) → BeginsAt r c
      → HandsOut layout new (reading_of source table edition).rows (rust_stream source table edition) c
  after_a_scan (Ok (scan.End n b)) p c e = let w = end_whole source table edition old new n b p in ended_hands n c w.0 w.1 e
  after_a_scan (Ok (scan.Stuck n b)) p c e = let w = stuck_whole source table edition old new n b p in stuck_hands n c w.0 w.1 e
  after_a_scan (Err x) p c e = absurd e
