-- What the definitions answer, on plain values: one law for each way to get there, for the code's returns and for other laws.
--     see_token, see_bad, see_nothing   what is seen
--     next_is_lem, give_token, give_none, give_bad       `next`, by what is seen
--     show_is, show_token, show_none, show_bad       queued token n, by what is seen
--     queued_row, queued_bad, queued_none            queued token n, by what is shown there
--     next_row, next_bad, next_none                  `next`, by what is shown there
--     peek_far, peek_as_is, peek_full, peek_more     `peek`, by its tests
--     peek_no_more, peek_past                        the same, by whether the queue is full
--     look_unfit, look_full, look_is                 `look_ahead`, by its tests
--     look_queued                                    it shows queued token n of the cursor that has queued what is lacking
--     next_same, peek_same, look_same                lists that show the same below the cursor's count answer the same
-- Assumes nothing.
use Rattle.std.specs.Prelude.{ℕ, ◌+◌, ◌-◌, ◌≤◌, ◌<◌, ◌≡◌, Bool, ◌&&◌, ltb, Option, Some, None, Result, Ok, Err}
use Rattle.std.proofs.Common.{arith, sym, ◌∙◌}
use Rattle.std.proofs.Math.Path.{refl, ap}
use Rattle.std.proofs.Math.Bool.{true, false, and-eq-true_iff}
use Rattle.std.proofs.Math.Dec.{eqb}
use borrow.Author.Tests.{lt-ltb, le-ltb, eq-eqb, ne_eqb, eqb-true, eqb-false}
use Rattle.base.specs.Pick.{pick}
use Rattle.base.specs.PickLaws.{split_lt}
use Rattle.rows.specs.declared.Row.{Row}
use Rattle.cursor.specs.Cursor.{queue_most, is_fit, record_at, ahead, moved_on, must_queue, queued_one, is_full, queued_past, queued_for, queueing}
use Rattle.cursor.specs.CursorLaws.{record_at_lem, there_end, queued_for_lem}
use Rattle.cursor.specs.declared.Status.{Status}
use Rattle.cursor.specs.declared.Status.TheVariants.{End, Stuck}
use Rattle.cursor.specs.declared.Cursor.{Cursor}
use Rattle.lookahead.specs.Seen.{seen_by, seen_at}
use Rattle.lookahead.specs.Next.{Given, handed, given_by, next_of}
use Rattle.lookahead.specs.Peek.{Peeked, looked, shown_by, queued_at, peek_of}
use Rattle.lookahead.specs.LookAhead.{look_ahead_of}
use Rattle.lookahead.specs.declared.NextError.TheVariants as next
use Rattle.lookahead.specs.declared.LookError.TheVariants as look

-- ---- what is seen

module _ (shown : ℕ → Option Row) (c : Cursor) (n : ℕ) {i : ℕ} (e : i ≡ ahead c n) where
  pub see_token : i < c.count → {r : Option Row} {row : Row} → r ≡ shown i → r ≡ Some row → Ok (Some row) ≡ seen_at shown c n
  unfolding seen_at
  see_token h q z = rw (← e, lt-ltb i c.count h, ← q, z)

  pub see_bad : i < c.count → {r : Option Row} → r ≡ shown i → r ≡ None → Err i ≡ seen_at shown c n
  unfolding seen_at
  see_bad h q z = rw (← e, lt-ltb i c.count h, ← q, z)

  pub see_nothing : c.count ≤ i → Ok None ≡ seen_at shown c n
  unfolding seen_at
  see_nothing h = rw (← e, le-ltb i c.count h)

-- ---- `next`

module _ (c : Cursor) {s : Result (Option Row) ℕ} where
  pub give_token : {row : Row} {after : Cursor} → s ≡ Ok (Some row) → after ≡ moved_on c → handed row after ≡ given_by c s
  give_token e f = rw (e, f)

  pub give_none : s ≡ Ok None → Ok None ≡ given_by c s
  give_none e = rw e

  pub give_bad : {i : ℕ} → s ≡ Err i → Err (next.BadRecord i) ≡ given_by c s
  give_bad e = rw e

-- the answer of a cursor that is fit, by what was seen
pub next_is_lem : (room : ℕ) (shown : ℕ → Option Row) (c : Cursor) {s : Result (Option Row) ℕ} {v : Given} → is_fit room c ≡ true → s ≡ seen_at shown c 0
    → v ≡ given_by c s → v ≡ next_of room shown c
unfolding next_of
next_is_lem room shown c f e g = rw (f, ← e) g

-- ---- `peek`

module _ (c : Cursor) {s : Result (Option Row) ℕ} where
  pub show_token : {row : Row} → s ≡ Ok (Some row) → looked (Some row) c ≡ shown_by c s
  show_token e = rw e

  pub show_none : s ≡ Ok None → looked None c ≡ shown_by c s
  show_none e = rw e

  pub show_bad : {i : ℕ} → s ≡ Err i → Err (look.BadRecord i) ≡ shown_by c s
  show_bad e = rw e

-- queued token n, by what was seen
pub show_is : (shown : ℕ → Option Row) (c : Cursor) (n : ℕ) {s : Result (Option Row) ℕ} {v : Peeked} → n < c.queued → s ≡ seen_at shown c n → v ≡ shown_by c s
    → v ≡ queued_at shown c n
unfolding queued_at
show_is shown c n h e g = rw (lt-ltb n c.queued h, ← e) g

module _ (room : ℕ) (shown : ℕ → Option Row) (c : Cursor) (n : ℕ) (f : is_fit room c ≡ true) where
  pub peek_far : c.queued + 1 < n → Err look.PeekTooFar ≡ peek_of room shown c n
  unfolding peek_of
  peek_far h = rw (f, lt-ltb (c.queued + 1) n h)

  module _ (h : n ≤ c.queued + 1) where
    pub peek_as_is : must_queue c n ≡ false → queued_at shown c n ≡ peek_of room shown c n
    unfolding peek_of
    peek_as_is m = rw (f, le-ltb (c.queued + 1) n h, m)

    pub peek_full : must_queue c n ≡ true → c.queued ≡ queue_most → Err look.QueueFull ≡ peek_of room shown c n
    unfolding peek_of
    peek_full m q = rw (f, le-ltb (c.queued + 1) n h, m, eq-eqb c.queued queue_most q)

    pub peek_more : must_queue c n ≡ true → (c.queued ≡ queue_most → ⊥) → queued_at shown (queued_one c) n ≡ peek_of room shown c n
    unfolding peek_of
    peek_more m q = rw (f, le-ltb (c.queued + 1) n h, m, ne_eqb c.queued queue_most q)

    -- by whether the queue is full
    pub peek_no_more : is_full c n ≡ true → Err look.QueueFull ≡ peek_of room shown c n
    unfolding is_full
    peek_no_more e =
        let tests = (and-eq-true_iff (must_queue c n) (eqb c.queued queue_most)).0 e in
        peek_full tests.0 (eqb-true c.queued queue_most tests.1)

    pub peek_past : is_full c n ≡ false → queued_at shown (queued_past c n) n ≡ peek_of room shown c n
    unfolding is_full queued_past
    peek_past e = go (must_queue c n) refl e
      where
        go : (m : Bool) → must_queue c n ≡ m → (m && eqb c.queued queue_most) ≡ false
            → queued_at shown (pick m (queued_one c) c) n ≡ peek_of room shown c n
        go true m e = peek_more m (eqb-false c.queued queue_most e)
        go false m e = peek_as_is m

-- ---- `look_ahead`

module _ (room : ℕ) (shown : ℕ → Option Row) (c : Cursor) (n : ℕ) where
  pub look_unfit : is_fit room c ≡ false → Err look.BadState ≡ look_ahead_of room shown c n
  unfolding look_ahead_of
  look_unfit f = rw f

  module _ (f : is_fit room c ≡ true) where
    pub look_full : ltb queue_most (queued_for c n) ≡ true → Err look.QueueFull ≡ look_ahead_of room shown c n
    unfolding look_ahead_of
    look_full h = rw (f, h)

    -- by what is seen, with the cursor that has queued what is lacking
    pub look_is : ltb queue_most (queued_for c n) ≡ false → {d : Cursor} {s : Result (Option Row) ℕ} {v : Peeked} → d ≡ queueing c (queued_for c n)
        → s ≡ seen_at shown c n → v ≡ shown_by d s → v ≡ look_ahead_of room shown c n
    unfolding look_ahead_of
    look_is h {v = v} e q z = rw (f, h, ← e, ← q) z

-- ---- `next` and `peek`, by what is shown there

module _ (shown : ℕ → Option Row) (c : Cursor) (n : ℕ) {i : ℕ} (e : ahead c n ≡ i) (h : i < c.count) (q : n < c.queued) where
  pub queued_row : {row : Row} → shown i ≡ Some row → looked (Some row) c ≡ queued_at shown c n
  queued_row t = show_is shown c n q (see_token shown c n (sym e) h refl t) refl

  pub queued_bad : shown i ≡ None → Err (look.BadRecord i) ≡ queued_at shown c n
  queued_bad t = show_is shown c n q (see_bad shown c n (sym e) h refl t) refl

pub queued_none : (shown : ℕ → Option Row) (c : Cursor) (n : ℕ) → c.queued ≤ n → looked None c ≡ queued_at shown c n
unfolding queued_at
queued_none shown c n h = rw (le-ltb n c.queued h)

module _ (room : ℕ) (shown : ℕ → Option Row) (c : Cursor) (f : is_fit room c ≡ true) {i : ℕ} (e : ahead c 0 ≡ i) where
  pub next_row : i < c.count → {row : Row} → shown i ≡ Some row → handed row (moved_on c) ≡ next_of room shown c
  next_row h t = next_is_lem room shown c f (see_token shown c 0 (sym e) h refl t) refl

  pub next_bad : i < c.count → shown i ≡ None → Err (next.BadRecord i) ≡ next_of room shown c
  next_bad h t = next_is_lem room shown c f (see_bad shown c 0 (sym e) h refl t) refl

  pub next_none : c.count ≤ i → Ok None ≡ next_of room shown c
  next_none h = next_is_lem room shown c f (see_nothing shown c 0 (sym e) h) refl

-- ---- `look_ahead`, by what is queued

-- where a look has queued no token n there is none
none_there : (c : Cursor) (n : ℕ) → queued_for c n ≤ n → (s : Status) → c.status ≡ s → c.count ≤ record_at c.count s (c.taken + n)
none_there c n h End e = omega (arith, queued_for_lem c n e, there_end (c.count - c.taken) (n + 1), record_at_lem c.count End (c.taken + n))
none_there c n h Stuck e = absurd (omega (arith, queued_for_lem c n e))

pub look_queued : (room : ℕ) (shown : ℕ → Option Row) (c : Cursor) (n : ℕ) → is_fit room c ≡ true → ltb queue_most (queued_for c n) ≡ false
    → queued_at shown (queueing c (queued_for c n)) n ≡ look_ahead_of room shown c n
unfolding seen_at
look_queued room shown c n f h =
    split_lt n (queued_for c n)
    (λ k. sym (show_is shown (queueing c (queued_for c n)) n k refl refl) ∙ look_is room shown c n f h refl refl refl)
    (λ k.
    let e = see_nothing shown c n refl (none_there c n k c.status refl) in
    sym (queued_none shown (queueing c (queued_for c n)) n k) ∙ look_is room shown c n f h refl e refl)

-- ---- lists that show the same below the cursor's count

seen_same : (shown other : ℕ → Option Row) (c : Cursor) (n : ℕ) → ((i : ℕ) → i < c.count → shown i ≡ other i) → seen_at shown c n ≡ seen_at other c n
unfolding seen_at
seen_same shown other c n same =
    split_lt (ahead c n) c.count
    (λ h. ap (λ (r : Option Row). pick (ltb (ahead c n) c.count) (seen_by (ahead c n) r) (Ok None)) (same (ahead c n) h))
    (λ h. rw (le-ltb (ahead c n) c.count h))

queued_same : (shown other : ℕ → Option Row) (c : Cursor) (n : ℕ) → ((i : ℕ) → i < c.count → shown i ≡ other i) → queued_at shown c n ≡ queued_at other c n
unfolding queued_at
queued_same shown other c n same = ap (λ (s : Result (Option Row) ℕ). pick (ltb n c.queued) (shown_by c s) (looked None c)) (seen_same shown other c n same)

module _ (room : ℕ) (shown other : ℕ → Option Row) (c : Cursor) (same : (i : ℕ) → i < c.count → shown i ≡ other i) where
  pub next_same : next_of room shown c ≡ next_of room other c
  unfolding next_of
  next_same = ap (λ (s : Result (Option Row) ℕ). pick (is_fit room c) (given_by c s) (Err next.BadState)) (seen_same shown other c 0 same)

  pub peek_same : (n : ℕ) → peek_of room shown c n ≡ peek_of room other c n
  unfolding peek_of queued_one
  peek_same n =
      let one = queued_same shown other (queued_one c) n same in
      let none = queued_same shown other c n same in
      λ i. pick (is_fit room c)
      (pick (ltb (c.queued + 1) n) (Err look.PeekTooFar) (pick (must_queue c n) (pick (eqb c.queued queue_most) (Err look.QueueFull) (one i)) (none i)))
      (Err look.BadState)

  pub look_same : (n : ℕ) → look_ahead_of room shown c n ≡ look_ahead_of room other c n
  unfolding look_ahead_of
  look_same n =
      ap
      (λ (s : Result (Option Row) ℕ).
      pick (is_fit room c) (pick (ltb queue_most (queued_for c n)) (Err look.QueueFull) (shown_by (queueing c (queued_for c n)) s)) (Err look.BadState))
      (seen_same shown other c n same)
