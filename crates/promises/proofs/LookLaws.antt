-- The promise of `Look`, proved, and that no second answer fits.
--     look_ahead_promise, look_ahead_has_one_answer
-- Assumes nothing.
use Rattle.std.specs.Prelude.{ℕ, ◌+◌, ◌-◌, ◌<◌, ◌≤◌, ◌≡◌, Bool, List, ltb, Option, Some, None, Result, Ok, Err}
use native.Mathlib.Omega.{arith}
use Rattle.std.proofs.Math.Path.{refl}
use Rattle.std.proofs.Common.{sym, ap, subst, ◌∙◌, lt-ltb, le-ltb}
use Rattle.std.proofs.Math.Bool.{true, false}
use Rattle.base.specs.Refusal.{none, peek_too_far}
use Rattle.layout.specs.Layout.{room_in, shown_in}
use Rattle.layout.specs.LayoutLaws.{shown_fit, shown_unfit}
use Rattle.layout.specs.declared.Layout.{Layout}
use Rattle.rows.specs.declared.Row.{Row}
use Rattle.cursor.specs.Cursor.{queue_most, is_fit, ahead, queued_for, queueing}
use Rattle.cursor.specs.CursorLaws.{there_end, queued_for_lem}
use Rattle.lookahead.specs.Seen.{seen_at}
use Rattle.lookahead.specs.Peek as ofPeek
use Rattle.lookahead.specs.Peek.{shown_by, Peeked}
use Rattle.lookahead.specs.LookAhead.{look_ahead_of}
use Rattle.lookahead.specs.AnswerLaws.{see_token, see_bad, see_nothing, look_unfit, look_full, look_is}
use Rattle.lookahead.specs.declared.LookError.TheVariants as peeked
use Rattle.cursor.specs.declared.Status.{Status}
use Rattle.cursor.specs.declared.Status.TheVariants.{End, Stuck}
use Rattle.cursor.specs.declared.Cursor.{Cursor}
use Rattle.queue.specs.Calls.{peeked_token, peeked_cursor, next, call, after_calls}
use Rattle.queue.specs.LookLaws.{same_nexts, look_fits, look_token}
use Rattle.promises.specs.Lookahead.{peeked_says}
use Rattle.promises.proofs.LookaheadLaws.{unfit_is, fit_is}
use Rattle.promises.specs.Look.{LookAheadEnsures, Lacks, nothing, at_stuck, at_end, past_end, nexts_of, LookAheadPromise}

-- how many are queued, as the document says it and as the definition computes it
lacks_is : (c : Cursor) (n m : ℕ) → Lacks c n m → queued_for c n ≡ m
lacks_is c n m (nothing h) = go c.status refl
  where
    go : (s : Status) → c.status ≡ s → queued_for c n ≡ c.queued
    go End e = omega (arith, queued_for_lem c n e, there_end (c.count - c.taken) (n + 1))
    go Stuck e = omega (arith, queued_for_lem c n e)
lacks_is c n m (at_stuck e h) = omega (arith, queued_for_lem c n e)
lacks_is c n m (at_end e h k) = omega (arith, queued_for_lem c n e, there_end (c.count - c.taken) (n + 1))
lacks_is c n m (past_end e h k) = omega (arith, queued_for_lem c n e, there_end (c.count - c.taken) (n + 1))

module _ (layout : Layout) (list : List ℕ) (c : Cursor) (n : ℕ) where
  abbrev looked : Peeked
  looked = look_ahead_of (room_in layout list) (shown_in layout list c.count) c n

  -- 6 is no answer of it
  never_far : ofPeek.number_of looked ≡ peek_too_far → ⊥
  unfolding look_ahead_of
  never_far = by_fit (is_fit (room_in layout list) c) refl
    where
      by_seen : (s : Result (Option Row) ℕ) → ofPeek.number_of (shown_by (queueing c (queued_for c n)) s) ≡ peek_too_far → ⊥
      by_seen (Ok (Some row)) z = omega arith
      by_seen (Ok None) z = omega arith
      by_seen (Err i) z = omega arith

      by_room_lem : (t : Bool) → is_fit (room_in layout list) c ≡ true → ltb queue_most (queued_for c n) ≡ t → ofPeek.number_of looked ≡ peek_too_far → ⊥
      by_room_lem true f e z = omega (arith, rw (f, e) at z)
      by_room_lem false f e z = by_seen (seen_at (shown_in layout list c.count) c n) (rw (f, e) at z)

      by_fit : (t : Bool) → is_fit (room_in layout list) c ≡ t → ofPeek.number_of looked ≡ peek_too_far → ⊥
      by_fit true f z = by_room_lem (ltb queue_most (queued_for c n)) f refl z
      by_fit false f z = omega (arith, rw f at z)

  module _ (f : is_fit (room_in layout list) c ≡ true) (m : ℕ) (l : Lacks c n m) where
    is_full_lem : queue_most < m → looked ≡ Err peeked.QueueFull
    is_full_lem h = sym (look_full (room_in layout list) (shown_in layout list c.count) c n f (lt-ltb queue_most (queued_for c n) (omega (arith, lacks_is c n m l))))

    module _ (h : m ≤ queue_most) where
      -- by what is seen
      is_seen : {s : Result (Option Row) ℕ} → s ≡ seen_at (shown_in layout list c.count) c n → looked ≡ shown_by (queueing c m) s
      is_seen e =
          let q = lacks_is c n m l in
          sym (look_is (room_in layout list) (shown_in layout list c.count) c n f (le-ltb queue_most (queued_for c n) (omega (arith, q)))
          (ap (queueing c) (sym q)) e refl)

  -- a look that is not refused is one of a fit cursor
  unrefused_fit : ofPeek.number_of looked ≡ none → is_fit (room_in layout list) c ≡ true
  unfolding look_ahead_of
  unrefused_fit = go (is_fit (room_in layout list) c) refl
    where
      go : (t : Bool) → is_fit (room_in layout list) c ≡ t → ofPeek.number_of looked ≡ none → is_fit (room_in layout list) c ≡ true
      go true f z = f
      go false f z = absurd (omega (arith, rw f at z))

  module _ (z : ofPeek.number_of looked ≡ none) where
    after_fits : is_fit (room_in layout list) (peeked_cursor c looked) ≡ true
    after_fits =
        let w = look_fits (room_in layout list) (shown_in layout list c.count) c n (unrefused_fit z) z in
        subst (λ (d : Cursor). is_fit (room_in layout list) d ≡ true) (sym w.1) w.0

pub look_ahead_promise : (layout : Layout) (list : List ℕ) (c : Cursor) (n : ℕ) (r : Peeked) → LookAheadEnsures layout list c n r → LookAheadPromise layout list c n r
look_ahead_promise layout list c n r e =
    record {
      unfit = λ u. ap peeked_says (e ∙ sym (look_unfit (room_in layout list) (shown_in layout list c.count) c n (unfit_is layout list c u)));
      full = λ u m l h. ap peeked_says (e ∙ is_full_lem layout list c n (fit_is layout list c u) m l h);
      nothing_there = λ u m l h k. e ∙ is_seen layout list c n (fit_is layout list c u) m l h (see_nothing (shown_in layout list c.count) c n refl k);
      bad_record_lem = λ u m l h k t.
          ap peeked_says (e ∙ is_seen layout list c n (fit_is layout list c u) m l h (see_bad (shown_in layout list c.count) c n refl k refl (shown_unfit layout list c.count (ahead c n) t)));
      shown = λ u m l h k t. e ∙ is_seen layout list c n (fit_is layout list c u) m l h (see_token (shown_in layout list c.count) c n refl k refl (shown_fit layout list c.count (ahead c n) t));
      never_too_far = λ z. never_far layout list c n (ap ofPeek.number_of (sym e) ∙ z);
      fit_after = λ z. subst (λ (x : Peeked). is_fit (room_in layout list) (peeked_cursor c x) ≡ true) (sym e) (after_fits layout list c n (ap ofPeek.number_of (sym e) ∙ z));
      same_next = λ z m.
          let y = ap ofPeek.number_of (sym e) ∙ z in
          let f = unrefused_fit layout list c n y in
          let w = look_fits (room_in layout list) (shown_in layout list c.count) c n f y in
          let s = same_nexts (room_in layout list) (shown_in layout list c.count) m c (queued_for c n) f w.0 in
          let to : peeked_cursor c r ≡ queueing c (queued_for c n) = ap (peeked_cursor c) e ∙ w.1 in (
            ap (λ (d : Cursor). (call (room_in layout list) (shown_in layout list c.count) (after_calls (room_in layout list) (shown_in layout list c.count) d (nexts_of m)) next).number) to ∙ s.number,
            ap (λ (d : Cursor). (call (room_in layout list) (shown_in layout list c.count) (after_calls (room_in layout list) (shown_in layout list c.count) d (nexts_of m)) next).token) to ∙ s.token,
          );
      shows_next = λ z u.
          let y = ap ofPeek.number_of (sym e) ∙ z in ap peeked_token e ∙ look_token (room_in layout list) (shown_in layout list c.count) c n (unrefused_fit layout list c n y) y u;
    }

pub look_ahead_has_one_answer : (layout : Layout) (list : List ℕ) (c : Cursor) (n : ℕ) (r q : Peeked) → LookAheadEnsures layout list c n r → LookAheadEnsures layout list c n q
    → r ≡ q
look_ahead_has_one_answer layout list c n r q e f = e ∙ sym f
