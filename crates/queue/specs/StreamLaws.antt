-- `token_queue.get(n)`, and the cursor's answers over rows that are shown: both are the row that a place means.
--     get_in, get_past, get_some    `token_queue.get(n)`
--     get_front, get_last       the same after a `push_back`
--     shows_by                  rows that are shown, each by its index
--     by_next, by_queued        a property of `next`'s answers, and of a look's at the queue, over rows that are shown
--     by_peek, by_look          a property of `peek`'s and of `look_ahead`'s answers, by their tests
-- Assumes nothing.
use Rattle.std.specs.Prelude.{ℕ, zero, suc, ◌+◌, ◌≤◌, ◌<◌, ◌≡◌, refl, Bool, true, false, List, [], ◌∷◌, ◌++◌, ltb, length, get_or, Option, Some, None, Ok, Err}
use Rattle.std.proofs.Common.{arith, sym, ap, subst, ◌∙◌, ltb-true, ltb-false}
use Rattle.std.proofs.lemmas.Option.{same_Some, none-some}
use Rattle.base.specs.PickLaws.{split_lt, split_eq}
use Rattle.rows.specs.declared.Row.{Row}
use Rattle.cursor.specs.Cursor.{queue_most, is_fit, ahead, moved_on, must_queue, queued_one, queued_for, queueing}
use Rattle.cursor.specs.CursorLaws.{queued_there}
use Rattle.lookahead.specs.Next.{next_of, Given, handed}
use Rattle.lookahead.specs.Peek.{queued_at, peek_of, Peeked, looked}
use Rattle.lookahead.specs.LookAhead.{look_ahead_of}
use Rattle.lookahead.specs.AnswerLaws.{next_row, next_none, queued_row, queued_none, peek_far, peek_as_is, peek_full, peek_more, look_full, look_queued}
use Rattle.lookahead.specs.declared.LookError.TheVariants as peeked
use Rattle.cursor.specs.declared.Cursor.{Cursor}
use Rattle.queue.specs.Queue.{get}
use Rattle.queue.specs.Calls.{Shows}

-- ---- `get`

pub get_in : (l : List Row) (i : ℕ) (d : Row) → i < length l → get l i ≡ Some (get_or l i d)
unfolding get
get_in [] i d h = absurd (omega arith)
get_in (t ∷ l) zero d h = refl
get_in (t ∷ l) (suc i) d h = get_in l i d (omega arith)

pub get_past : (l : List Row) (i : ℕ) → length l ≤ i → get l i ≡ None
unfolding get
get_past [] i h = refl
get_past (t ∷ l) zero h = absurd (omega arith)
get_past (t ∷ l) (suc i) h = get_past l i (omega arith)

pub get_some : (l : List Row) (i : ℕ) → i < length l → (row : Row) × (get l i ≡ Some row)
unfolding get
get_some [] i h = absurd (omega arith)
get_some (t ∷ l) zero h = (t, refl)
get_some (t ∷ l) (suc i) h = get_some l i (omega arith)

pub get_front : (l m : List Row) (i : ℕ) → i < length l → get (l ++ m) i ≡ get l i
unfolding get
get_front [] m i h = absurd (omega arith)
get_front (t ∷ l) m zero h = refl
get_front (t ∷ l) m (suc i) h = get_front l m i (omega arith)

pub get_last : (l : List Row) (t : Row) (i : ℕ) → i ≡ length l → get (l ++ (t ∷ [])) i ≡ Some t
unfolding get
get_last [] t zero e = refl
get_last [] t (suc i) e = absurd (omega arith)
get_last (x ∷ l) t zero e = absurd (omega arith)
get_last (x ∷ l) t (suc i) e = get_last l t i (omega arith)

-- ---- the cursor's answers

pub shows_by : (shown : ℕ → Option Row) (rows : List Row) → ((i : ℕ) (d : Row) → i < length rows → shown i ≡ Some (get_or rows i d)) → Shows shown rows
shows_by shown rows h i row e =
    split_lt i (length rows)
    (λ lt. h i row lt ∙ ap Some (same_Some (get_or rows i row) row (sym (get_in rows i row lt) ∙ e)))
    (λ ge. absurd (none-some row (sym (get_past rows i ge) ∙ e)))

module _ (room : ℕ) (shown : ℕ → Option Row) (rows : List Row) (w : Shows shown rows) (c : Cursor) (f : is_fit room c ≡ true)
    (counted : c.count ≡ length rows) where
  -- the row that is ahead, or nothing
  pub by_next : (P : Given → Type 0) → ((row : Row) → get rows (ahead c 0) ≡ Some row → P (handed row (moved_on c)))
      → (c.count ≤ ahead c 0 → P (Ok None)) → P (next_of room shown c)
  by_next P token past =
      split_lt (ahead c 0) c.count
      (λ h. let there = get_some rows (ahead c 0) (omega arith) in
      subst P (next_row room shown c f refl h (w (ahead c 0) there.0 there.1)) (token there.0 there.1))
      (λ h. subst P (next_none room shown c f refl h) (past h))

  -- the queued row n, or nothing
  pub by_queued : (P : Peeked → Type 0) (n : ℕ) → ((row : Row) → n < c.queued → get rows (ahead c n) ≡ Some row → P (looked (Some row) c))
      → (c.queued ≤ n → P (looked None c)) → P (queued_at shown c n)
  by_queued P n token past =
      split_lt n c.queued
      (λ h. let below : ahead c n < c.count = queued_there room c f n h in
      let there = get_some rows (ahead c n) (omega arith) in
      subst P (queued_row shown c n refl below h (w (ahead c n) there.0 there.1)) (token there.0 h there.1))
      (λ h. subst P (queued_none shown c n h) (past h))

pub by_peek : (room : ℕ) (shown : ℕ → Option Row) (c : Cursor) → is_fit room c ≡ true → (P : Peeked → Type 0) (n : ℕ)
    → (c.queued + 1 < n → P (Err peeked.PeekTooFar))
    → (must_queue c n ≡ true → c.queued ≡ queue_most → P (Err peeked.QueueFull))
    → (must_queue c n ≡ true → (c.queued ≡ queue_most → ⊥) → P (queued_at shown (queued_one c) n))
    → (must_queue c n ≡ false → n ≤ c.queued + 1 → P (queued_at shown c n)) → P (peek_of room shown c n)
by_peek room shown c f P n far full more as_is =
    split_lt (c.queued + 1) n (λ h. subst P (peek_far room shown c n f h) (far h)) (λ h. near h (must_queue c n) refl)
  where
    near : n ≤ c.queued + 1 → (t : Bool) → must_queue c n ≡ t → P (peek_of room shown c n)
    near h true e =
        split_eq c.queued queue_most (λ q. subst P (peek_full room shown c n f h e q) (full e q))
        (λ q. subst P (peek_more room shown c n f h e q) (more e q))
    near h false e = subst P (peek_as_is room shown c n f h e) (as_is e h)

pub by_look : (room : ℕ) (shown : ℕ → Option Row) (c : Cursor) → is_fit room c ≡ true → (P : Peeked → Type 0) (n : ℕ)
    → (queue_most < queued_for c n → P (Err peeked.QueueFull))
    → (queued_for c n ≤ queue_most → P (queued_at shown (queueing c (queued_for c n)) n)) → P (look_ahead_of room shown c n)
by_look room shown c f P n full shows = by_room_lem (ltb queue_most (queued_for c n)) refl
  where
    by_room_lem : (t : Bool) → ltb queue_most (queued_for c n) ≡ t → P (look_ahead_of room shown c n)
    by_room_lem true e = subst P (look_full room shown c n f e) (full (ltb-true _ _ e))
    by_room_lem false e = subst P (look_queued room shown c n f e) (shows (ltb-false _ _ e))
