-- The promise of `pool::add_string`, case by case in the documents' order: 3 or 15, 8, 13, and then the string's index; and what it leaves of the
-- pool.
-- Assumes nothing.
use Rattle.std.specs.Prelude.{ℕ, ◌+◌, ◌<◌, ◌≤◌, ◌≡◌, true, false, List, [], length, get_or, Result}
use Rattle.base.specs.Refusal.{none, bad_utf8, cut_utf8, bad_state, pool_full}
use Rattle.utf8.specs.Encode.{WellFormed}
use Rattle.utf8.specs.Meaning.{Arriving, Damaged}
use Rattle.pool_rows.specs.Rows.{strings_of, byte_room, entry_room, fit_pool}
use Rattle.pool.specs.Pool.{one_more, written, entered}
use Rattle.pool.specs.Pool.{Grown, number_of, place_of, added_index, counts_after}
use Rattle.pool_rows.specs.declared.Counts.{Counts}
use Rattle.pool.specs.declared.Added.{Added}
use Rattle.pool.specs.declared.AddError.{AddError}
use Rattle.promises.specs.Said.{Said, says}

abbrev pub added_says : Result Added AddError → Said
added_says r = says (number_of r) (place_of r)

-- a string that passes the first two refusals
pub record Taken (string bytes entries : List ℕ) (counts : Counts) : Type 0 where
  pub well : WellFormed string
  pub fit : fit_pool bytes entries counts ≡ true

-- entry k of the pool, one in use, has the string
pub record StandsAt (string bytes entries : List ℕ) (counts : Counts) (k : ℕ) : Type 0 where
  pub in_use : k < counts.entries
  pub is : get_or (strings_of bytes entries counts.entries) k [] ≡ string

-- no entry of the pool has it
abbrev pub Absent : List ℕ → List ℕ → List ℕ → Counts → Type 0
Absent string bytes entries counts = (k : ℕ) → StandsAt string bytes entries counts k → ⊥

-- what it ensures is `AddsString`. The cases shut each other out, and leave nothing out
pub record AddStringPromise (string : List ℕ) (counts : Counts) (bytes entries new_bytes new_entries : List ℕ) (r : Result Added AddError) : Type 0 where
  pub bad_utf8_lem : (n : ℕ) → Damaged string n → added_says r ≡ says bad_utf8 n
  pub cut_utf8_lem : (n : ℕ) → Arriving string n → added_says r ≡ says cut_utf8 n
  pub bad_state_lem : WellFormed string → fit_pool bytes entries counts ≡ false → added_says r ≡ says bad_state 0
  pub no_entry :
      Taken string bytes entries counts → Absent string bytes entries counts → entry_room entries ≤ counts.entries
      → added_says r ≡ says pool_full 0
  pub few_bytes :
      Taken string bytes entries counts → Absent string bytes entries counts → counts.entries < entry_room entries
      → byte_room bytes < counts.bytes + length string → added_says r ≡ says pool_full 0
  -- the first entry that has the string; it costs nothing
  pub there :
      Taken string bytes entries counts → (k : ℕ) → StandsAt string bytes entries counts k
      → ((j : ℕ) → j < k → StandsAt string bytes entries counts j → ⊥)
      → (added_says r ≡ says none 0) × (added_index r ≡ k) × (counts_after counts r ≡ counts) × (new_bytes ≡ bytes) × (new_entries ≡ entries)
  -- the string behind those in use, and every other word as it was
  pub new :
      Taken string bytes entries counts → Absent string bytes entries counts → counts.entries < entry_room entries
      → counts.bytes + length string ≤ byte_room bytes
      → (added_says r ≡ says none 0)
      × (added_index r ≡ counts.entries)
      × (counts_after counts r ≡ one_more counts (length string))
      × (new_bytes ≡ written bytes counts.bytes string)
      × (new_entries ≡ entered entries counts.entries counts.bytes (length string))
  -- 3 and 15 are given nowhere else
  pub only_bad : number_of r ≡ bad_utf8 → Damaged string (place_of r)
  pub only_cut : number_of r ≡ cut_utf8 → Arriving string (place_of r)
  -- a refusal writes nothing
  pub kept : (number_of r ≡ none → ⊥) → (counts_after counts r ≡ counts) × (new_bytes ≡ bytes) × (new_entries ≡ entries)
  -- after an index the pool is fit again, and its strings are those before, with this one at their end where it was absent
  pub grown : number_of r ≡ none → Grown string bytes entries counts new_bytes new_entries (added_index r) (counts_after counts r)
  -- so the string stands at its index, and every index before means what it meant
  pub shown : number_of r ≡ none → get_or (strings_of new_bytes new_entries (counts_after counts r).entries) (added_index r) [] ≡ string
  pub same_before :
      number_of r ≡ none → (k : ℕ) → k < counts.entries
      → get_or (strings_of new_bytes new_entries (counts_after counts r).entries) k [] ≡ get_or (strings_of bytes entries counts.entries) k []
