-- Document 01, "Where each language form goes": the pool's long forms, a row of entry records in place of two numbers for each string, and
-- counts that are lent. What a row means is its numbers, and what an addition does to it is what it does to the flat row of `pool`.
-- Assumes nothing.
use Rattle.std.specs.Prelude.{ℕ, ◌≡◌, Result, List, [], ◌∷◌}
use Rattle.pool.specs.Pool.{counts_after, AddsString}
use Rattle.pool_rows.specs.declared.Counts.{Counts}
use Rattle.pool.specs.declared.Added.{Added}
use Rattle.pool.specs.declared.AddError.{AddError}
use Rattle.pool_lent.specs.declared.Entry.{Entry}

-- an entry, from its two numbers
abbrev pub entry_of : ℕ → ℕ → Entry
entry_of start long = record { start = start; len = long }

-- the flat row of some entries: each one's start, then its length
unfoldable pub numbers_of : List Entry → List ℕ
numbers_of [] = []
numbers_of (e ∷ es) = e.start ∷ e.len ∷ numbers_of es

-- what `add_string` ensures: the addition to the flat rows, and the counts that it leaves
pub record AddsEntry (string : List ℕ) (counts : Counts) (bytes : List ℕ) (entries : List Entry)
    (new_bytes : List ℕ) (new_entries : List Entry) (newCounts : Counts) (r : Result Added AddError) : Type 0 where
  pub same : AddsString string counts bytes (numbers_of entries) new_bytes (numbers_of new_entries) r
  pub counts_left : newCounts ≡ counts_after counts r
