-- Laws of the call `compact`.
--     unfit, bad_mark_lem, fine               the call where it is refused, and where not
--     rows_kept                           `compact_rows`
--     Left, left_of_lem                       how long the rows are after a compaction, and that what is held can be counted
--     settled, settled_kept               a return of `compact`
--     one_answer                          no second answer and no second rows fit `Compacts`
-- Assumes nothing.
use Rattle.std.specs.Prelude.{ℕ, ◌*◌, ◌/◌, ◌≤◌, ◌≡◌, refl, Bool, true, false, List, length, get_or, drop, replicate, Result, Err}
use Rattle.std.proofs.Common.{arith, sym, ap, ◌∙◌}
use Rattle.base.specs.PickLaws.{by_test}
use Rattle.pool_rows.specs.Rows.{string_at, byte_room, entry_room}
use Rattle.pool_rows.specs.FitLaws as pool
use Rattle.pool_rows.specs.declared.Counts.{Counts}
use Rattle.desks.specs.Desks.{Shared, shared, owner_of, held_by, fit_desks}
use Rattle.desks.specs.FitLaws.{Fit}
use Rattle.desks.specs.SpentLaws.{spent, all_spent}
use Rattle.desks.specs.declared.Desks.{Desks}
use Rattle.desks.specs.declared.Which.TheVariants.{First, Second}
use Rattle.slide.specs.Slide.{kept_strings, kept_owners, gone, translated, joined, laid_out, headed, Compacted, stays}
use Rattle.slide.specs.SlideLaws.{kept_long, new_most, laid_long, kept_bytes, compacted_same}
use Rattle.slide.specs.HeadLaws.{head_long}
use Rattle.marks.specs.Marks.{is_marked, all_given, good_marks, marked}
use Rattle.marks.specs.MarksLaws.{marks_say, marks_rest}
use Rattle.compact.specs.Compact.{counts_after, desks_after, recharged, compacted, keeping, Comes, comes, call, Compacts}
use Rattle.compact.specs.LaidLaws.{runs_there}
use Rattle.compact.specs.declared.Kept.{Kept}
use Rattle.compact.specs.declared.CompactError.{CompactError}
use Rattle.compact.specs.declared.CompactError.TheVariants.{BadMark, BadState}

module _ (first second : List ℕ) (s : Shared) (moved : List ℕ) where
  pub unfit : fit_desks s ≡ false → call first second s moved ≡ comes (Err BadState) s moved
  unfolding call
  unfit e = rw e

  module _ (fits : fit_desks s ≡ true) where
    pub bad_mark_lem : good_marks first second moved s.counts.entries ≡ false → call first second s moved ≡ comes (Err BadMark) s moved
    unfolding call
    bad_mark_lem e = rw (fits, e)

    pub fine : good_marks first second moved s.counts.entries ≡ true
        → call first second s moved
        ≡ comes (keeping (compacted (is_marked first second) s).counts (compacted (is_marked first second) s).desks) (compacted (is_marked first second) s)
        (headed (translated (is_marked first second) s.counts.entries) moved)
    unfolding call
    fine e = rw (fits, e)

  -- a return, from what the call comes to
  -- the counts and the desks of the state are those of the answer
  pub state_counts : counts_after (call first second s moved).answer s.counts ≡ (call first second s moved).state.counts
  unfolding call
  state_counts =
      by_test (λ (c : Comes). counts_after c.answer s.counts ≡ c.state.counts) (fit_desks s)
      (λ _. by_test (λ (c : Comes). counts_after c.answer s.counts ≡ c.state.counts) (good_marks first second moved s.counts.entries)
      (λ _. refl) (λ _. refl))
      (λ _. refl)

  pub state_desks : desks_after (call first second s moved).answer s.desks ≡ (call first second s moved).state.desks
  unfolding call
  state_desks =
      by_test (λ (c : Comes). desks_after c.answer s.desks ≡ c.state.desks) (fit_desks s)
      (λ _. by_test (λ (c : Comes). desks_after c.answer s.desks ≡ c.state.desks) (good_marks first second moved s.counts.entries)
      (λ _. refl) (λ _. refl))
      (λ _. refl)

  pub settled : (r : Result Kept CompactError) → call first second s moved ≡ comes r s moved
      → Compacts first second s moved s.bytes s.entries s.owners moved r
  settled r e =
      record {
        answer_is = sym (ap (λ (c : Comes). c.answer) e);
        bytes_left = sym (ap (λ (c : Comes). c.state.bytes) e);
        entries_left = sym (ap (λ (c : Comes). c.state.entries) e);
        owners_left = sym (ap (λ (c : Comes). c.state.owners) e);
        moved_left = sym (ap (λ (c : Comes). c.moved) e);
      }

  pub settled_kept : (new_bytes new_entries newOwners newMoved : List ℕ) (after one two : Counts) (desks : Desks)
      → fit_desks s ≡ true → good_marks first second moved s.counts.entries ≡ true
      → Compacted (is_marked first second) s.counts.entries s.bytes s.entries s.owners moved new_bytes new_entries newOwners newMoved after
      → one ≡ held_by new_entries newOwners (owner_of First) after.entries → two ≡ held_by new_entries newOwners (owner_of Second) after.entries
      → desks ≡ recharged s.desks one two
      → Compacts first second s moved new_bytes new_entries newOwners newMoved (keeping after desks)
  settled_kept new_bytes new_entries newOwners newMoved after one two desks fits good d a b q =
      let e = fine fits good in
      let k = compacted (is_marked first second) s in
      let n : after.entries ≡ k.counts.entries = ap (λ (c : Counts). c.entries) d.counts_are in
      let held : (owner : ℕ) → held_by new_entries newOwners owner after.entries ≡ held_by k.entries k.owners owner k.counts.entries =
      λ owner. rw (d.entries_left, d.owners_left, n) in
      let told : desks ≡ k.desks = q ∙ ap (λ (c : Counts). recharged s.desks c two) (a ∙ held 0)
      ∙ ap (λ (c : Counts). recharged s.desks (held_by k.entries k.owners 0 k.counts.entries) c) (b ∙ held 1) in
      record {
        answer_is =
            ap (λ (c : Counts). keeping c desks) d.counts_are ∙ ap (λ (x : Desks). keeping k.counts x) told
            ∙ sym (ap (λ (c : Comes). c.answer) e);
        bytes_left = d.bytes_left ∙ sym (ap (λ (c : Comes). c.state.bytes) e);
        entries_left = d.entries_left ∙ sym (ap (λ (c : Comes). c.state.entries) e);
        owners_left = d.owners_left ∙ sym (ap (λ (c : Comes). c.state.owners) e);
        moved_left = d.moved_left ∙ sym (ap (λ (c : Comes). c.moved) e);
      }

-- ---- the rows after a compaction

-- what `slide` makes of the row that `clear` and `mark` leave
pub rows_kept : (first second : List ℕ) (n : ℕ) (b e o m m1 m2 m3 b' e' o' r : List ℕ) (counts : Counts) → n ≤ length m
    → all_given first n ≡ true → all_given second n ≡ true
    → m1 ≡ headed (replicate n gone) m → m2 ≡ marked m1 first → m3 ≡ marked m2 second
    → Compacted (stays m3) n b e o m3 b' e' o' r counts → Compacted (is_marked first second) n b e o m b' e' o' r counts
rows_kept first second n b e o m m1 m2 m3 b' e' o' r counts h f g p q t c =
    let w : m3 ≡ marked (marked (headed (replicate n gone) m) first) second =
    t ∙ ap (λ (l : List ℕ). marked l second) (q ∙ ap (λ (l : List ℕ). marked l first) p) in
    compacted_same (stays m3) (is_marked first second) n b e o m3 m b' e' o' r counts
    (λ k l. ap (λ (x : List ℕ). stays x k) w ∙ marks_say m first second n h k l)
    (ap (drop n) w ∙ marks_rest m first second n h f g) c

pub record Left (bytes entries owners new_bytes new_entries newOwners : List ℕ) (counts after : Counts) : Type 0 where
  pub bytes_long : length new_bytes ≡ length bytes
  pub entries_long : length new_entries ≡ length entries
  pub owners_long : length newOwners ≡ length owners
  pub fewer : after.entries ≤ counts.entries
  pub less : after.bytes ≤ counts.bytes
  pub entries_in : 2 * after.entries ≤ length new_entries
  pub owners_in : after.entries ≤ length newOwners
  pub entries_small : after.entries ≤ 4294967295
  pub bytes_small : spent new_entries after.entries ≤ 4294967295

pub left_of_lem : (keep : ℕ → Bool) (bytes entries owners moved new_bytes new_entries newOwners newMoved : List ℕ) (counts after : Counts) (desks : Desks)
    → Fit (shared bytes entries owners counts desks)
    → Compacted keep counts.entries bytes entries owners moved new_bytes new_entries newOwners newMoved after
    → Left bytes entries owners new_bytes new_entries newOwners counts after
left_of_lem keep bytes entries owners moved new_bytes new_entries newOwners newMoved counts after desks f d =
    let n = counts.entries in
    let strings = kept_strings keep bytes entries n in
    let p = pool.fit_of entries counts (entry_room entries) (byte_room bytes) f.pool_fit in
    let s = pool.searchable bytes entries counts f.pool_fit in
    let long = kept_long keep (string_at bytes entries) n in
    let owned = kept_long keep (λ (k : ℕ). get_or owners k 0) n in
    let most = new_most keep n in
    let few = kept_bytes keep bytes entries n in
    let all = all_spent entries n counts.bytes p.runs in
    let rb = pool.room_within (length bytes) in
    let re = pool.room_within (length entries / 2) in
    let ce : after.entries ≡ length strings = ap (λ (c : Counts). c.entries) d.counts_are in
    let cb : after.bytes ≡ length (joined strings) = ap (λ (c : Counts). c.bytes) d.counts_are in
    let bl : length new_bytes ≡ length bytes =
    ap (λ (l : List ℕ). length l) d.bytes_left ∙ head_long (joined strings) bytes (omega (arith, few, all, p.bytes_fit, rb.0)) in
    let el : length new_entries ≡ length entries =
    ap (λ (l : List ℕ). length l) d.entries_left ∙ head_long (laid_out 0 strings) entries (omega (arith, laid_long 0 strings, long, most, s.1)) in
    let ol : length newOwners ≡ length owners =
    ap (λ (l : List ℕ). length l) d.owners_left ∙ head_long (kept_owners keep owners n) owners (omega (arith, owned, most, f.owned, p.entries_fit)) in
    let sp : spent new_entries after.entries ≡ length (joined strings) =
    rw (d.entries_left, ce) (all_spent (headed (laid_out 0 strings) entries) (length strings) (length (joined strings)) (runs_there strings bytes entries)) in
    record {
      bytes_long = bl;
      entries_long = el;
      owners_long = ol;
      fewer = omega (arith, ce, long, most);
      less = omega (arith, cb, few, all);
      entries_in = omega (arith, ce, long, most, el, s.1);
      owners_in = omega (arith, ce, long, most, ol, f.owned, p.entries_fit);
      entries_small = omega (arith, ce, long, most, p.entries_fit, re.1);
      bytes_small = omega (arith, sp, few, all, p.bytes_fit, rb.1);
    }

pub one_answer : {first second moved new_bytes new_entries newOwners newMoved newBytes' newEntries' newOwners' newMoved' : List ℕ} {s : Shared}
    {r q : Result Kept CompactError} → Compacts first second s moved new_bytes new_entries newOwners newMoved r
    → Compacts first second s moved newBytes' newEntries' newOwners' newMoved' q
    → (r ≡ q) × (new_bytes ≡ newBytes') × (new_entries ≡ newEntries') × (newOwners ≡ newOwners') × (newMoved ≡ newMoved')
one_answer v w = (
  v.answer_is ∙ sym w.answer_is,
  v.bytes_left ∙ sym w.bytes_left,
  v.entries_left ∙ sym w.entries_left,
  v.owners_left ∙ sym w.owners_left,
  v.moved_left ∙ sym w.moved_left,
)
