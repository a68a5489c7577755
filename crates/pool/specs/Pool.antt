-- Document 01, "Format options and pool" and "Refusal numbers" (3, 8, 13): the string side of koto's constant pool, `add_string` of
-- constant_pool.rs, over the rows of the crate `pool_rows`.
-- Assumes nothing.
use Rattle.std.specs.Prelude.{ℕ, ◌+◌, ◌*◌, ◌≡◌, List, ◌++◌, Bool, true, false, Result, Ok, Err, eqb, ltb, length, set, take, drop}
use Rattle.base.specs.Pick.{pick}
use Rattle.base.specs.Refusal.{none, bad_utf8, cut_utf8, bad_state, pool_full}
use Rattle.utf8.specs.Chars.{check_from}
use Rattle.utf8.specs.declared.Utf8Error.{Utf8Error}
use Rattle.utf8.specs.declared.Utf8Error.TheVariants as utf8
use Rattle.pool_rows.specs.Rows.{with_string, index_of, strings_of, byte_room, entry_room, fit_pool}
use Rattle.pool_rows.specs.declared.Counts.{Counts}
use Rattle.pool.specs.declared.Added.{Added}
use Rattle.pool.specs.declared.AddError.{AddError}
use Rattle.pool.specs.declared.AddError.TheVariants.{BadUtf8, CutUtf8, BadState, PoolFull}

-- ---- an addition

-- the counts with one entry more, of so many bytes
abbrev pub one_more : Counts → ℕ → Counts
one_more counts long = record { entries = counts.entries + 1; bytes = counts.bytes + long }

-- an index, and the counts after the addition
abbrev pub indexed : ℕ → Counts → Result Added AddError
indexed index after = Ok (record { index = index; counts = after })

-- the answer in a fit pool, for a string of so many bytes whose index among the pool's strings is `found`; room goes in as two numbers
unfoldable pub placed : ℕ → ℕ → Counts → ℕ → ℕ → Result Added AddError
placed long found counts forEntries forBytes =
    pick (ltb found counts.entries) (indexed found counts)
    (pick (ltb forEntries (counts.entries + 1)) (Err PoolFull)
    (pick (ltb forBytes (counts.bytes + long)) (Err PoolFull)
    (indexed counts.entries (one_more counts long))))

-- wrong bytes are 3, and bytes that the end cuts are 15
abbrev pub of_utf8 : Utf8Error → AddError
of_utf8 (utf8.BadAt i) = BadUtf8 i
of_utf8 (utf8.CutAt i) = CutUtf8 i

-- the answer where the bytes are well formed
abbrev pub on_utf8 : Result (Unit {0}) Utf8Error → Result Added AddError → Result Added AddError
on_utf8 (Ok _) r = r
on_utf8 (Err (utf8.BadAt i)) r = Err (BadUtf8 i)
on_utf8 (Err (utf8.CutAt i)) r = Err (CutUtf8 i)

-- the answer for a string and a pool that is fit
abbrev pub added_to_fit : List ℕ → List ℕ → List ℕ → Counts → Result Added AddError
added_to_fit string bytes entries counts =
    placed (length string) (index_of string (strings_of bytes entries counts.entries)) counts (entry_room entries) (byte_room bytes)

-- the answer: refusals 3 or 15, 8, 13 in this order
unfoldable pub added : List ℕ → List ℕ → List ℕ → Counts → Result Added AddError
added string bytes entries counts =
    on_utf8 (check_from 0 string)
    (pick (fit_pool bytes entries counts) (added_to_fit string bytes entries counts) (Err BadState))

-- what is refused before an addition, where something is
abbrev pub refused_as : Result (Unit {0}) Utf8Error → AddError
refused_as (Ok _) = BadState
refused_as (Err (utf8.BadAt i)) = BadUtf8 i
refused_as (Err (utf8.CutAt i)) = CutUtf8 i

abbrev pub refusal_at : List ℕ → AddError
refusal_at string = refused_as (check_from 0 string)

-- whether an answer hands out an index that no string had before
abbrev pub is_new : Counts → Result Added AddError → Bool
is_new counts (Ok added) = eqb added.index counts.entries
is_new counts (Err e) = false

-- a row of bytes with a string written into it from a byte on
abbrev pub written : List ℕ → ℕ → List ℕ → List ℕ
written bytes start string = take start bytes ++ (string ++ drop (start + length string) bytes)

-- a row of entries with entry n written into it
abbrev pub entered : List ℕ → ℕ → ℕ → ℕ → List ℕ
entered entries n start long = set (set entries (2 * n) start) (2 * n + 1) long

-- the row of bytes after an answer: a new string stands behind those in use, and all else stays
unfoldable pub bytes_after : List ℕ → Counts → Result Added AddError → List ℕ → List ℕ
bytes_after string counts r bytes = pick (is_new counts r) (written bytes counts.bytes string) bytes

-- the row of entries after an answer: a new string's start and length stand behind those in use, and all else stays
unfoldable pub entries_after : List ℕ → Counts → Result Added AddError → List ℕ → List ℕ
entries_after string counts r entries = pick (is_new counts r) (entered entries counts.entries counts.bytes (length string)) entries

-- what `add_to_fit` ensures, for a string that is well formed and a pool that is fit: its answer r, and the rows that it leaves
pub record AddsToFit (string : List ℕ) (counts : Counts) (bytes entries new_bytes new_entries : List ℕ) (r : Result Added AddError) : Type 0 where
  pub answer : r ≡ added_to_fit string bytes entries counts
  pub bytes_left : new_bytes ≡ bytes_after string counts r bytes
  pub entries_left : new_entries ≡ entries_after string counts r entries

-- what `add_string` ensures: its answer r, and the rows that it leaves
pub record AddsString (string : List ℕ) (counts : Counts) (bytes entries new_bytes new_entries : List ℕ) (r : Result Added AddError) : Type 0 where
  pub answer : r ≡ added string bytes entries counts
  pub bytes_left : new_bytes ≡ bytes_after string counts (added string bytes entries counts) bytes
  pub entries_left : new_entries ≡ entries_after string counts (added string bytes entries counts) entries

-- a pool after an addition: it is fit, its strings are those before with this one at their end where it was absent, and the index is its
-- own
pub record Grown (string bytes entries : List ℕ) (counts : Counts) (new_bytes new_entries : List ℕ) (index : ℕ) (after : Counts)
    : Type 0 where
  pub fit : fit_pool new_bytes new_entries after ≡ true
  pub strings : strings_of new_bytes new_entries after.entries ≡ with_string string (strings_of bytes entries counts.entries)
  pub index_is : index ≡ index_of string (strings_of bytes entries counts.entries)

-- ---- the documents' numbers of an answer

abbrev pub number_of : Result Added AddError → ℕ
number_of (Ok added) = none
number_of (Err (BadUtf8 place)) = bad_utf8
number_of (Err (CutUtf8 place)) = cut_utf8
number_of (Err BadState) = bad_state
number_of (Err PoolFull) = pool_full

-- the refusal's place; 0 where there is none
abbrev pub place_of : Result Added AddError → ℕ
place_of (Ok added) = 0
place_of (Err (BadUtf8 place)) = place
place_of (Err (CutUtf8 place)) = place
place_of (Err BadState) = 0
place_of (Err PoolFull) = 0

-- the string's index; 0 on a refusal
abbrev pub added_index : Result Added AddError → ℕ
added_index (Ok added) = added.index
added_index (Err e) = 0

-- the pool's counts after an answer: a refusal leaves them
abbrev pub counts_after : Counts → Result Added AddError → Counts
counts_after counts (Ok added) = added.counts
counts_after counts (Err e) = counts
