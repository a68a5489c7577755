-- Document 02, C-13, "Taking room back": what `compact::compact` promises, in the documents' numbers.
-- Assumes nothing.
use Rattle.std.specs.Prelude.{ℕ, ◌+◌, ◌-◌, ◌<◌, ◌≤◌, ◌≡◌, List, [], Bool, true, false, get_or, drop, Result}
use Rattle.base.specs.Refusal.{none, bad_state, bad_mark}
use Rattle.pool_rows.specs.Rows.{strings_of}
use Rattle.pool.specs.Pool.{added}
use Rattle.desks.specs.Desks.{Shared, desk_of, other, fit_desks, Fits}
use Rattle.desks.specs.declared.Which.{Which}
use Rattle.desk_add.specs.Add.{free_entries, free_bytes, added_for}
use Rattle.slide.specs.Slide.{kept_strings, new_index, gone}
use Rattle.marks.specs.Marks.{is_marked, good_marks}
use Rattle.compact.specs.Compact.{number_of}
use Rattle.compact.specs.declared.Kept.{Kept}
use Rattle.compact.specs.declared.CompactError.{CompactError}
use Rattle.promises.specs.Desks.{Stays}

-- the strings in use, in the order of their indices
abbrev pub strings_in : Shared → List (List ℕ)
strings_in s = strings_of s.bytes s.entries s.counts.entries

-- t is s with the strings that `keep` keeps, and the row tells each old index its new one
pub record Keeps (keep : ℕ → Bool) (s t : Shared) (moved newMoved : List ℕ) : Type 0 where
  -- the kept strings, together and in order
  pub strings : strings_in t ≡ kept_strings keep s.bytes s.entries s.counts.entries
  -- every kept index, after translation, shows the same string, with the same owner
  pub row_kept : (k : ℕ) → k < s.counts.entries → keep k ≡ true → get_or newMoved k 0 ≡ new_index keep k
  pub shows_same : (k : ℕ) → k < s.counts.entries → keep k ≡ true → get_or (strings_in t) (new_index keep k) [] ≡ get_or (strings_in s) k []
  pub owner_same : (k : ℕ) → k < s.counts.entries → keep k ≡ true → get_or t.owners (new_index keep k) 0 ≡ get_or s.owners k 0
  -- every other one is gone
  pub row_gone : (k : ℕ) → k < s.counts.entries → keep k ≡ false → get_or newMoved k 0 ≡ gone
  pub row_rest : drop s.counts.entries newMoved ≡ drop s.counts.entries moved
  -- the state is fit again, the guarantees are as they were, and what a desk's own strings gave back is free for it
  pub fits : Fits t
  pub guarantees : (w : Which) → (desk_of w t.desks).guaranteed ≡ (desk_of w s.desks).guaranteed
  pub entries_free : (w : Which)
      → free_entries w s + ((desk_of w s.desks).charged.entries - (desk_of w t.desks).charged.entries) ≤ free_entries w t
  pub bytes_free : (w : Which) → free_bytes w s + ((desk_of w s.desks).charged.bytes - (desk_of w t.desks).charged.bytes) ≤ free_bytes w t
  -- from then on demand 2's indices count from the kept strings on: one desk alone is answered as the pool alone answers, whose strings are they
  pub alone : (which : Which) (string : List ℕ) → (desk_of (other which) s.desks).guaranteed.entries ≡ 0
      → (desk_of (other which) s.desks).guaranteed.bytes ≡ 0 → added_for which t string ≡ added string t.bytes t.entries t.counts

-- t and newMoved are what the call leaves. The cases shut each other out, and leave nothing out
pub record CompactPromise (first second : List ℕ) (s t : Shared) (moved newMoved : List ℕ) (r : Result Kept CompactError) : Type 0 where
  pub bad_state_lem : fit_desks s ≡ false → (number_of r ≡ bad_state) × Stays s t × (newMoved ≡ moved)
  pub bad_mark_lem : Fits s → good_marks first second moved s.counts.entries ≡ false → (number_of r ≡ bad_mark) × Stays s t × (newMoved ≡ moved)
  -- a string that either desk marks stays
  pub kept : Fits s → good_marks first second moved s.counts.entries ≡ true
      → (number_of r ≡ none) × Keeps (is_marked first second) s t moved newMoved
