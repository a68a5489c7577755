-- The promise of `Pool`, proved, and that no second answer and no second rows fit.
--     add_string_promise, add_string_has_one_answer
-- Assumes nothing.
use Rattle.std.specs.Prelude.{ℕ, ◌+◌, ◌<◌, ◌≤◌, ◌≡◌, List, Result, Ok, Err}
use Rattle.std.proofs.Common.{arith, sym, ap, subst, ◌∙◌, eq-eqb}
use Rattle.std.proofs.Math.Path.{refl}
use Rattle.std.proofs.Math.ListN.{length}
use Rattle.base.specs.Pick.{pick}
use Rattle.base.specs.PickLaws.{by_test, by_lt}
use Rattle.base.specs.Refusal.{none, bad_utf8, cut_utf8}
use Rattle.utf8.specs.Chars.{check_from}
use Rattle.utf8.specs.CharsLaws.{fine_of_well}
use Rattle.utf8.specs.Meaning.{Arriving, Damaged}
use Rattle.utf8.specs.MeaningLaws.{check_is, is_check}
use Rattle.utf8.specs.declared.Utf8Error.{Utf8Error}
use Rattle.utf8.specs.declared.Utf8Error.TheVariants as utf8
use Rattle.pool_rows.specs.Rows.{strings_of, index_of, byte_room, entry_room, fit_pool}
use Rattle.pool.specs.Pool.{one_more, indexed, placed, added_to_fit, on_utf8, added, is_new}
use Rattle.pool.specs.Pool.{AddsString, Grown, counts_after, number_of, place_of, added_index}
use Rattle.pool_rows.specs.StringsLaws.{index_at, index_none, strings_long}
use Rattle.pool.specs.PoolLaws.{placed_no_entry, placed_few_bytes, placed_new, wrong, cut, unfit, unrefused, grows}
use Rattle.pool.specs.PoolLaws.{new_bytes_lem, new_entries_lem, there_costs_nothing, refused_writes_nothing, index_kept, index_shows, one_answer}
use Rattle.pool_rows.specs.declared.Counts.{Counts}
use Rattle.pool.specs.declared.Added.{Added}
use Rattle.pool.specs.declared.AddError.{AddError}
use Rattle.pool.specs.declared.AddError.TheVariants.{BadUtf8, CutUtf8, BadState, PoolFull}
use Rattle.promises.specs.Pool.{added_says, Taken, StandsAt, Absent, AddStringPromise}

module _ (string bytes entries : List ℕ) (counts : Counts) where
  abbrev strings : List (List ℕ)
  strings = strings_of bytes entries counts.entries

  is_bad : (n : ℕ) → Damaged string n → added string bytes entries counts ≡ Err (BadUtf8 n)
  is_bad n w = wrong string bytes entries counts n (is_check string (Err (utf8.BadAt n)) w)

  is_cut : (n : ℕ) → Arriving string n → added string bytes entries counts ≡ Err (CutUtf8 n)
  is_cut n w = cut string bytes entries counts n (is_check string (Err (utf8.CutAt n)) w)

  -- 3 and 15 are those of the string
  abbrev Told : Result Added AddError → Type 0
  Told x = (number_of x ≡ bad_utf8 → Damaged string (place_of x)) × (number_of x ≡ cut_utf8 → Arriving string (place_of x))

  told_fit : Told (added_to_fit string bytes entries counts)
  unfolding placed
  told_fit =
      by_lt Told (index_of string strings) counts.entries (λ _. (λ m. absurd (omega arith), λ m. absurd (omega arith)))
      (λ _. by_lt Told (entry_room entries) (counts.entries + 1) (λ _. (λ m. absurd (omega arith), λ m. absurd (omega arith)))
      (λ _. by_lt Told (byte_room bytes) (counts.bytes + length string) (λ _. (λ m. absurd (omega arith), λ m. absurd (omega arith)))
      (λ _. (λ m. absurd (omega arith), λ m. absurd (omega arith)))))

  told : Told (added string bytes entries counts)
  unfolding added
  told = go (check_from 0 string) refl
    where
      go : (u : Result (Unit {0}) Utf8Error) → check_from 0 string ≡ u
          → Told (on_utf8 u (pick (fit_pool bytes entries counts) (added_to_fit string bytes entries counts) (Err BadState)))
      go (Ok _) e =
          by_test Told (fit_pool bytes entries counts) (λ _. told_fit) (λ _. (λ m. absurd (omega arith), λ m. absurd (omega arith)))
      go (Err (utf8.BadAt n)) e = (λ m. check_is string (Err (utf8.BadAt n)) e, λ m. absurd (omega arith))
      go (Err (utf8.CutAt n)) e = (λ m. absurd (omega arith), λ m. check_is string (Err (utf8.CutAt n)) e)

  taken : Taken string bytes entries counts → added string bytes entries counts ≡ added_to_fit string bytes entries counts
  taken t = unrefused string bytes entries counts (fine_of_well 0 string t.well) t.fit

  -- the index that the search answers, by what stands in the pool
  pub first_is : (k : ℕ) → StandsAt string bytes entries counts k → ((j : ℕ) → j < k → StandsAt string bytes entries counts j → ⊥)
      → index_of string strings ≡ k
  first_is k s before =
      let long = strings_long bytes entries 0 counts.entries in
      index_at string strings k (omega (arith, s.in_use)) s.is
      (λ j h e. before j h record { in_use = omega (arith, s.in_use); is = e })

  pub none_is : Absent string bytes entries counts → counts.entries ≤ index_of string strings
  none_is absent =
      let long = strings_long bytes entries 0 counts.entries in
      omega (arith, index_none string strings (λ k h e. absent k record { in_use = omega arith; is = e }))

  module _ (new_bytes new_entries : List ℕ) (r : Result Added AddError) (p : AddsString string counts bytes entries new_bytes new_entries r) where
    no_room_entry : Taken string bytes entries counts → Absent string bytes entries counts → entry_room entries ≤ counts.entries → r ≡ Err PoolFull
    no_room_entry t a h = p.answer ∙ taken t ∙ placed_no_entry (length string) _ counts (entry_room entries) (byte_room bytes) (none_is a) h

    no_room_bytes : Taken string bytes entries counts → Absent string bytes entries counts → counts.entries < entry_room entries
        → byte_room bytes < counts.bytes + length string → r ≡ Err PoolFull
    no_room_bytes t a h k = p.answer ∙ taken t ∙ placed_few_bytes (length string) _ counts (entry_room entries) (byte_room bytes) (none_is a) h k

    is_new_lem : Taken string bytes entries counts → Absent string bytes entries counts → counts.entries < entry_room entries
        → counts.bytes + length string ≤ byte_room bytes → r ≡ indexed counts.entries (one_more counts (length string))
    is_new_lem t a h k = p.answer ∙ taken t ∙ placed_new (length string) _ counts (entry_room entries) (byte_room bytes) (none_is a) h k

    -- an answer that is no refusal is an index
    index_of_lem : (q : Result Added AddError) → r ≡ q → number_of q ≡ none → r ≡ indexed (added_index q) (counts_after counts q)
    index_of_lem (Ok q) e n = e
    index_of_lem (Err (BadUtf8 place)) e n = absurd (omega arith)
    index_of_lem (Err (CutUtf8 place)) e n = absurd (omega arith)
    index_of_lem (Err BadState) e n = absurd (omega arith)
    index_of_lem (Err PoolFull) e n = absurd (omega arith)

    has_grown : number_of r ≡ none → Grown string bytes entries counts new_bytes new_entries (added_index r) (counts_after counts r)
    has_grown n = grows string bytes entries counts new_bytes new_entries r p (added_index r) (counts_after counts r) (index_of_lem r refl n)

    counts_kept : (q : Result Added AddError) → (number_of q ≡ none → ⊥) → counts_after counts q ≡ counts
    counts_kept (Ok q) h = absurd (h refl)
    counts_kept (Err e) h = refl

    pub add_string_promise : AddStringPromise string counts bytes entries new_bytes new_entries r
    add_string_promise =
        record {
          bad_utf8_lem = λ n w. ap added_says (p.answer ∙ is_bad n w);
          cut_utf8_lem = λ n w. ap added_says (p.answer ∙ is_cut n w);
          bad_state_lem = λ w f. ap added_says (p.answer ∙ unfit string bytes entries counts (fine_of_well 0 string w) f);
          no_entry = λ t a h. ap added_says (no_room_entry t a h);
          few_bytes = λ t a h k. ap added_says (no_room_bytes t a h k);
          there =
              λ t k s before.
              let i = first_is k s before in
              let c = there_costs_nothing string bytes entries counts new_bytes new_entries r p t.well t.fit (omega (arith, s.in_use)) in
              let e : r ≡ indexed k counts = c.0 ∙ ap (λ (j : ℕ). indexed j counts) i in
              (ap added_says e, ap added_index e, ap (counts_after counts) e, c.1, c.2);
          new =
              λ t a h k.
              let e = is_new_lem t a h k in
              let new = ap (is_new counts) (sym p.answer ∙ e) ∙ eq-eqb counts.entries counts.entries refl in (
                ap added_says e,
                ap added_index e,
                ap (counts_after counts) e,
                p.bytes_left ∙ new_bytes_lem string counts (added string bytes entries counts) new bytes,
                p.entries_left ∙ new_entries_lem string counts (added string bytes entries counts) new entries,
              );
          only_bad = (subst Told (sym p.answer) told).0;
          only_cut = (subst Told (sym p.answer) told).1;
          kept =
              λ h.
              let c = refused_writes_nothing string bytes entries counts new_bytes new_entries r p h in
              (counts_kept r h, c.0, c.1);
          grown = has_grown;
          shown = λ n. index_shows string bytes entries counts new_bytes new_entries (added_index r) (counts_after counts r) (has_grown n);
          same_before = λ n. index_kept string bytes entries counts new_bytes new_entries (added_index r) (counts_after counts r) (has_grown n);
        }

pub add_string_has_one_answer :
    (string : List ℕ) (counts : Counts) (bytes entries new_bytes new_entries newBytes' newEntries' : List ℕ) (r q : Result Added AddError)
    → AddsString string counts bytes entries new_bytes new_entries r → AddsString string counts bytes entries newBytes' newEntries' q
    → (r ≡ q) × (new_bytes ≡ newBytes') × (new_entries ≡ newEntries')
add_string_has_one_answer string counts bytes entries new_bytes new_entries newBytes' newEntries' r q v w = one_answer v w
