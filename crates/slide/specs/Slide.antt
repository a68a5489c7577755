-- Document 02, C-13, "kept strings move together in order": what a compaction makes of the rows. `keep` says of each old index whether its
-- string stays; everything else follows from it and from how many entries are in use.
-- Assumes nothing.
use Rattle.std.specs.Prelude.{ℕ, zero, suc, ◌+◌, ◌*◌, ◌<◌, ◌≤◌, ◌≡◌, List, [], ◌∷◌, ◌++◌, Bool, not, eqb, length, get_or, set, drop}
use Rattle.base.specs.Pick.{pick}
use Rattle.pool_rows.specs.Rows.{start_of, length_of, string_at}
use Rattle.pool.specs.Pool.{one_more, written, entered}
use Rattle.pool_rows.specs.declared.Counts.{Counts}

-- ---- what is kept

-- one list of those of the first n things that are kept, in order
unfoldable pub kept : {A : Type 0} → (ℕ → Bool) → (ℕ → A) → ℕ → List A
kept keep f zero = []
kept keep f (suc n) = kept keep f n ++ pick (keep n) (f n ∷ []) []

-- the kept strings of the first n entries
abbrev pub kept_strings : (ℕ → Bool) → List ℕ → List ℕ → ℕ → List (List ℕ)
kept_strings keep bytes entries n = kept keep (string_at bytes entries) n

-- their owners
abbrev pub kept_owners : (ℕ → Bool) → List ℕ → ℕ → List ℕ
kept_owners keep owners n = kept keep (λ (k : ℕ). get_or owners k 0) n

-- how many of the first n indices are kept: the new index of index n, if it is kept itself
unfoldable pub new_index : (ℕ → Bool) → ℕ → ℕ
new_index keep zero = 0
new_index keep (suc n) = new_index keep n + pick (keep n) 1 0

-- what a translation row says of an index that is no more; no entry has this index
abbrev pub gone : ℕ
gone = 4294967295

-- the translation of the first n indices
unfoldable pub translated : (ℕ → Bool) → ℕ → List ℕ
translated keep zero = []
translated keep (suc n) = translated keep n ++ (pick (keep n) (new_index keep n) gone ∷ [])

-- ---- strings laid out end to end

-- their bytes
unfoldable pub joined : List (List ℕ) → List ℕ
joined [] = []
joined (s ∷ ss) = s ++ joined ss

-- their entries, from a byte on
unfoldable pub laid_out : ℕ → List (List ℕ) → List ℕ
laid_out start [] = []
laid_out start (s ∷ ss) = start ∷ length s ∷ laid_out (start + length s) ss

-- their counts
abbrev pub counts_of : List (List ℕ) → Counts
counts_of strings = record { entries = length strings; bytes = length (joined strings) }

-- a row that begins with some words, and behind them stays as it was
abbrev pub headed : List ℕ → List ℕ → List ℕ
headed words row = words ++ drop (length words) row

-- ---- the rows after a compaction

pub record Compacted (keep : ℕ → Bool) (n : ℕ) (bytes entries owners moved new_bytes new_entries newOwners newMoved : List ℕ) (counts : Counts)
    : Type 0 where
  pub counts_are : counts ≡ counts_of (kept_strings keep bytes entries n)
  pub bytes_left : new_bytes ≡ headed (joined (kept_strings keep bytes entries n)) bytes
  pub entries_left : new_entries ≡ headed (laid_out 0 (kept_strings keep bytes entries n)) entries
  pub owners_left : newOwners ≡ headed (kept_owners keep owners n) owners
  pub moved_left : newMoved ≡ headed (translated keep n) moved

-- ---- inside: the translation row as it is lent to the loop

-- the word of an entry that stays is any but `gone`
abbrev pub stays : List ℕ → ℕ → Bool
stays moved k = not (eqb (get_or moved k 0) gone)

-- what `slide` ensures
abbrev pub Slides : List ℕ → List ℕ → List ℕ → List ℕ → ℕ → List ℕ → List ℕ → List ℕ → List ℕ → Counts → Type 0
Slides bytes entries owners moved n new_bytes new_entries newOwners newMoved r =
    Compacted (stays moved) n bytes entries owners moved new_bytes new_entries newOwners newMoved r

-- what `keep_one` asks for: entry i stands in the rows, and what was kept before it lies before it
pub record Turning (bytes entries owners moved : List ℕ) (i : ℕ) (laid : Counts) : Type 0 where
  pub entry_in : 2 * i + 1 < length entries
  pub owner_in : i < length owners
  pub word_in : i < length moved
  pub few : laid.entries ≤ i
  pub low : laid.bytes ≤ start_of entries i
  pub string_in : start_of entries i + length_of entries i ≤ length bytes
  pub index_small : i < 4294967295
  pub end_small : laid.bytes + length_of entries i ≤ 4294967295

-- what `keep_one` ensures, with the counts of what was kept before
pub record Turns (bytes entries owners moved : List ℕ) (i : ℕ) (laid : Counts) (new_bytes new_entries newOwners newMoved : List ℕ) (r : Counts)
    : Type 0 where
  pub counts_are : r ≡ pick (stays moved i) (one_more laid (length_of entries i)) laid
  pub bytes_left : new_bytes ≡ pick (stays moved i) (written bytes laid.bytes (string_at bytes entries i)) bytes
  pub entries_left : new_entries ≡ pick (stays moved i) (entered entries laid.entries laid.bytes (length_of entries i)) entries
  pub owners_left : newOwners ≡ pick (stays moved i) (set owners laid.entries (get_or owners i 0)) owners
  pub moved_left : newMoved ≡ pick (stays moved i) (set moved i laid.entries) moved
