-- What a fit cursor is, and how places are held at the last one.
--     fits_of, fit_of           a cursor is fit exactly where it passes each test
--     start_fits, moved_fits, queued_fits    after a scan it is, and both calls keep it so
--     record_at_lem                 the record that a place means is the place itself or the last, whichever is smaller
--     last_most, record_most, record_in    it is none past the count, and at Stuck always one below
--     same_plus, held_plus, held_once    places that mean one record do so after n more, and a place may be held before n more
--     taken_held, ahead_none    a fit cursor does not stand past the last place, so that the next record is its own
--     fit_last                  the last test of a fit cursor, by its status
--     ahead_own, ahead_last     the record that is ahead is the place's own, or the last
--     more_end, more_stuck      when there is a token past the queued ones, for the code
--     must_more, must_both      when a token must be queued
--     past_count                queueing one leaves the count
--     stuck_some, queued_there  at Stuck there is a record, and a token that is queued is there
--     there_end, there_most, queued_for_lem    how many tokens a look queues, as numbers
--     there_all, there_left, there_stuck, there_queued    the same, for the code
--     queueing_fits             a cursor that has queued what a look asks for is fit
--     over_none, over_end, over_stuck    when that would be too many
-- Assumes nothing.
use Rattle.std.specs.Prelude.{ℕ, ◌+◌, ◌-◌, ◌≤◌, ◌<◌, ◌≡◌, refl, Bool, false, leb, ltb}
use Rattle.std.proofs.Common.{arith, sym, ap, ◌∙◌}
use Rattle.std.proofs.Math.Bool.{true, and-eq-true_iff}
use Rattle.std.proofs.lemmas.Bool.{false≢true}
use borrow.Author.Tests.{ltb-true, ltb-false, leb-true, lt-ltb, le-ltb, le-leb}
use Rattle.base.specs.PickLaws.{by_test, by_lt, split_lt, is_second}
use Rattle.cursor.specs.Cursor.{queue_most, fit_by, is_fit, start_cursor, last_place, record_at, ahead, moved_on, has_more, must_queue, queued_one, queued_past, there_of, there, queued_for, queueing}
use Rattle.cursor.specs.declared.Status.{Status}
use Rattle.cursor.specs.declared.Status.TheVariants.{End, Stuck}
use Rattle.cursor.specs.declared.Cursor.{Cursor}

-- what a fit cursor passes
pub record Fits (room : ℕ) (c : Cursor) : Type 0 where
  pub count : c.count ≤ room
  pub taken : c.taken ≤ c.count
  pub queued : c.queued ≤ queue_most
  pub by_status_lem : fit_by c c.status ≡ true

pub fits_of : (room : ℕ) (c : Cursor) → is_fit room c ≡ true → Fits room c
unfolding is_fit
fits_of room c e =
    let a = is_second (ltb room c.count) false _ true false≢true e in
    let b = is_second (ltb c.count c.taken) false _ true false≢true a.1 in
    let d = is_second (ltb queue_most c.queued) false _ true false≢true b.1 in
    record {
      count = ltb-false room c.count a.0;
      taken = ltb-false c.count c.taken b.0;
      queued = ltb-false queue_most c.queued d.0;
      by_status_lem = d.1;
    }

pub fit_of : (room : ℕ) (c : Cursor) → Fits room c → is_fit room c ≡ true
unfolding is_fit
fit_of room c f =
    rw (le-ltb room c.count f.count, le-ltb c.count c.taken f.taken, le-ltb queue_most c.queued f.queued) f.by_status_lem

-- ---- the record that a place means

-- the smaller of the two
pub record_at_lem : (count : ℕ) (status : Status) (i : ℕ) → record_at count status i ≡ i - (i - last_place count status)
unfolding record_at
record_at_lem count status i =
    by_lt (λ (r : ℕ). r ≡ i - (i - last_place count status)) i (last_place count status) (λ h. omega arith) (λ h. omega arith)

pub last_most : (count : ℕ) (status : Status) → last_place count status ≤ count
last_most count End = omega arith
last_most count Stuck = omega arith

module _ (count : ℕ) (status : Status) where
  pub record_most : (i : ℕ) → record_at count status i ≤ count
  record_most i = omega (arith, record_at_lem count status i, last_most count status)

  pub held_plus : (i n : ℕ) → record_at count status (record_at count status i + n) ≡ record_at count status (i + n)
  held_plus i n =
      omega (
        arith,
        record_at_lem count status i,
        record_at_lem count status (i + n),
        record_at_lem count status (record_at count status i + n),
      )

  pub held_once : (i : ℕ) → record_at count status (record_at count status i) ≡ record_at count status i
  held_once i = omega (arith, record_at_lem count status i, record_at_lem count status (record_at count status i))

  pub same_plus : (i j n : ℕ) → record_at count status i ≡ record_at count status j
      → record_at count status (i + n) ≡ record_at count status (j + n)
  same_plus i j n e = sym (held_plus i n) ∙ ap (λ (r : ℕ). record_at count status (r + n)) e ∙ held_plus j n

pub record_in : (count i : ℕ) → 0 < count → record_at count Stuck i < count
record_in count i h = omega (arith, record_at_lem count Stuck i)

-- ---- what keeps a cursor fit

-- what a scan has written has room
pub start_fits : (room count : ℕ) (status : Status) → count ≤ room → (status ≡ Stuck → 0 < count)
    → is_fit room (start_cursor count status) ≡ true
start_fits room count status h k =
    fit_of room (start_cursor count status) (record {
      count = h;
      taken = omega arith;
      queued = omega arith;
      by_status_lem = go status k;
    })
  where
    go : (s : Status) → (s ≡ Stuck → 0 < count) → fit_by (start_cursor count s) s ≡ true
    go End k = le-leb 0 (count - 0) (omega arith)
    go Stuck k = lt-ltb 0 count (k refl)

module _ (room : ℕ) (c : Cursor) (f : is_fit room c ≡ true) where
  passed : Fits room c
  passed = fits_of room c f

  -- a fit cursor does not stand past the last place
  pub taken_held : record_at c.count c.status c.taken ≡ c.taken
  taken_held = go c.status passed.by_status_lem
    where
      go : (s : Status) → fit_by c s ≡ true → record_at c.count s c.taken ≡ c.taken
      go End e = omega (arith, passed.taken, record_at_lem c.count End c.taken)
      go Stuck e = omega (arith, ltb-true c.taken c.count e, record_at_lem c.count Stuck c.taken)

  pub ahead_none : ahead c 0 ≡ c.taken
  ahead_none =
      let e : c.taken + 0 ≡ c.taken = omega arith in
      rw e taken_held

  pub stuck_some : c.status ≡ Stuck → 0 < c.count
  stuck_some e =
      let h : fit_by c Stuck ≡ true = rw e at passed.by_status_lem in
      omega (arith, ltb-true c.taken c.count h)

  pub queued_there : (n : ℕ) → n < c.queued → ahead c n < c.count
  queued_there n h = go c.status passed.by_status_lem
    where
      go : (s : Status) → fit_by c s ≡ true → record_at c.count s (c.taken + n) < c.count
      go End e = omega (arith, leb-true c.queued (c.count - c.taken) e, record_at_lem c.count End (c.taken + n))
      go Stuck e = omega (arith, ltb-true c.taken c.count e, record_at_lem c.count Stuck (c.taken + n))

  pub moved_fits : is_fit room (moved_on c) ≡ true
  unfolding moved_on
  moved_fits =
      fit_of room (moved_on c) (record {
        count = passed.count;
        taken = record_most c.count c.status (c.taken + 1);
        queued = omega (arith, passed.queued);
        by_status_lem = go c.status passed.by_status_lem;
      })
    where
      go : (s : Status) → fit_by c s ≡ true
          → fit_by (record { taken = record_at c.count s (c.taken + 1); queued = c.queued - 1; count = c.count; status = s }) s ≡ true
      go End e =
          le-leb (c.queued - 1) (c.count - record_at c.count End (c.taken + 1))
          (omega (arith, passed.taken, leb-true c.queued (c.count - c.taken) e, record_at_lem c.count End (c.taken + 1)))
      go Stuck e =
          lt-ltb (record_at c.count Stuck (c.taken + 1)) c.count
          (record_in c.count (c.taken + 1) (omega (arith, ltb-true c.taken c.count e)))

  pub queued_fits : has_more c ≡ true → (c.queued ≡ queue_most → ⊥) → is_fit room (queued_one c) ≡ true
  unfolding queued_one
  queued_fits m n =
      let below : c.queued < queue_most = omega (arith, passed.queued) in
      fit_of room (queued_one c) (record {
        count = passed.count;
        taken = passed.taken;
        queued = omega arith;
        by_status_lem = go c.status passed.by_status_lem (ltb-true (ahead c c.queued) c.count m);
      })
    where
      go : (s : Status) → fit_by c s ≡ true → record_at c.count s (c.taken + c.queued) < c.count
          → fit_by (record { taken = c.taken; queued = c.queued + 1; count = c.count; status = s }) s ≡ true
      go End e h = le-leb (c.queued + 1) (c.count - c.taken) (omega (arith, record_at_lem c.count End (c.taken + c.queued)))
      go Stuck e h = e

-- ---- for the code

pub fit_last : (room : ℕ) (c : Cursor) (s : Status) → c.count ≤ room → c.taken ≤ c.count → c.queued ≤ queue_most → c.status ≡ s
    → fit_by c s ≡ is_fit room c
unfolding is_fit
fit_last room c s a b d e = simp (le-ltb _ _ a, le-ltb _ _ b, le-ltb _ _ d, e)

module _ (c : Cursor) (n : ℕ) {last : ℕ} (e : last ≡ last_place c.count c.status) where
  pub ahead_own : c.taken + n ≤ last → c.taken + n ≡ ahead c n
  ahead_own h = omega (arith, record_at_lem c.count c.status (c.taken + n))

  pub ahead_last : last ≤ c.taken + n → last ≡ ahead c n
  ahead_last h = omega (arith, record_at_lem c.count c.status (c.taken + n))

-- there is a token past the queued ones, by the status
module _ (c : Cursor) where
  pub more_end : c.status ≡ End → ltb c.queued (c.count - c.taken) ≡ has_more c
  more_end e =
      let place = record_at c.count End (c.taken + c.queued) in
      let at = record_at_lem c.count End (c.taken + c.queued) in
      rw e
      (split_lt c.queued (c.count - c.taken)
      (λ k. lt-ltb c.queued (c.count - c.taken) k ∙ sym (lt-ltb place c.count (omega (arith, at))))
      (λ k. le-ltb c.queued (c.count - c.taken) k ∙ sym (le-ltb place c.count (omega (arith, at)))))

  pub more_stuck : c.status ≡ Stuck → ltb 0 c.count ≡ has_more c
  more_stuck e =
      let place = record_at c.count Stuck (c.taken + c.queued) in
      let at = record_at_lem c.count Stuck (c.taken + c.queued) in
      rw e
      (split_lt 0 c.count
      (λ k. lt-ltb 0 c.count k ∙ sym (lt-ltb place c.count (omega (arith, at))))
      (λ k. le-ltb 0 c.count k ∙ sym (le-ltb place c.count (omega (arith, at)))))

-- it must be queued, where n is at most what is queued
pub must_more : (c : Cursor) (n : ℕ) {more : Bool} → n ≤ c.queued → more ≡ has_more c → more ≡ must_queue c n
unfolding must_queue
must_more c n h e = rw (le-leb n c.queued h) e

-- a token must be queued
pub must_both : (c : Cursor) (n : ℕ) → must_queue c n ≡ true → (n ≤ c.queued) × (has_more c ≡ true)
unfolding must_queue
must_both c n e = let tests = (and-eq-true_iff (leb n c.queued) (has_more c)).0 e in (leb-true n c.queued tests.0, tests.1)

-- queueing one leaves the count
pub past_count : (c : Cursor) (n : ℕ) → (queued_past c n).count ≡ c.count
unfolding queued_past queued_one
past_count c n = by_test (λ (d : Cursor). d.count ≡ c.count) (must_queue c n) (λ e. refl) (λ e. refl)

-- ---- what a look at place n queues

-- the smaller of m and of what is left
pub there_end : (left m : ℕ) → there_of left End m ≡ m - (m - left)
there_end left m = by_lt (λ (r : ℕ). r ≡ m - (m - left)) left m (λ h. omega arith) (λ h. omega arith)

pub there_most : (left : ℕ) (s : Status) (m : ℕ) → there_of left s m ≤ m
there_most left End m = omega (arith, there_end left m)
there_most left Stuck m = omega arith

-- the larger of what is queued and of what is there
pub queued_for_lem : (c : Cursor) (n : ℕ) {s : Status} → c.status ≡ s
    → queued_for c n ≡ c.queued + (there_of (c.count - c.taken) s (n + 1) - c.queued)
unfolding queued_for
queued_for_lem c n e =
    rw (← e)
    (by_lt (λ (r : ℕ). r ≡ c.queued + (there c (n + 1) - c.queued)) c.queued (there c (n + 1)) (λ h. omega arith) (λ h. omega arith))

module _ (c : Cursor) (n : ℕ) where
  pub there_all : c.status ≡ End → n < c.count - c.taken → n + 1 ≡ there c (n + 1)
  there_all e h = rw (e, le-ltb (c.count - c.taken) (n + 1) (omega arith))

  pub there_left : c.status ≡ End → c.count - c.taken ≤ n → c.count - c.taken ≡ there c (n + 1)
  there_left e h = rw (e, lt-ltb (c.count - c.taken) (n + 1) (omega arith))

  pub there_stuck : c.status ≡ Stuck → n + 1 ≡ there c (n + 1)
  there_stuck e = rw e

  pub there_queued : there c (n + 1) ≤ queued_for c n
  there_queued = omega (arith, queued_for_lem c n refl)

pub queueing_fits : (room : ℕ) (c : Cursor) (n : ℕ) → is_fit room c ≡ true → queued_for c n ≤ queue_most
    → is_fit room (queueing c (queued_for c n)) ≡ true
queueing_fits room c n f h =
    let p = fits_of room c f in
    fit_of room (queueing c (queued_for c n))
    (record { count = p.count; taken = p.taken; queued = h; by_status_lem = go c.status refl p.by_status_lem })
  where
    go : (s : Status) → c.status ≡ s → fit_by c s ≡ true → fit_by (queueing c (queued_for c n)) s ≡ true
    go End e b =
        le-leb (queued_for c n) (c.count - c.taken)
        (omega (arith, queued_for_lem c n e, there_end (c.count - c.taken) (n + 1), leb-true c.queued (c.count - c.taken) b))
    go Stuck e b = b

module _ (c : Cursor) (n : ℕ) (q : c.queued ≤ queue_most) where
  pub over_none : n < queue_most → ltb queue_most (queued_for c n) ≡ false
  over_none h = le-ltb queue_most (queued_for c n) (omega (arith, queued_for_lem c n refl, there_most (c.count - c.taken) c.status (n + 1)))

  module _ (h : queue_most ≤ n) where
    pub over_end : c.status ≡ End → ltb queue_most (queued_for c n) ≡ ltb queue_most (c.count - c.taken)
    over_end e =
        let left = c.count - c.taken in
        split_lt queue_most left
        (λ k. lt-ltb queue_most (queued_for c n) (omega (arith, queued_for_lem c n e, there_end left (n + 1))) ∙ sym (lt-ltb queue_most left k))
        (λ k. le-ltb queue_most (queued_for c n) (omega (arith, queued_for_lem c n e, there_end left (n + 1))) ∙ sym (le-ltb queue_most left k))

    pub over_stuck : c.status ≡ Stuck → ltb queue_most (queued_for c n) ≡ true
    over_stuck e = lt-ltb queue_most (queued_for c n) (omega (arith, queued_for_lem c n e))
