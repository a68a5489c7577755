-- What `koto_add_string` returns and writes, from the inner call's answer.
-- Assumes nothing.
use Rattle.std.specs.Prelude.{ℕ, ◌≡◌, List, Result}
use Rattle.pool.specs.Pool.{added, bytes_after, entries_after, number_of, place_of, added_index, counts_after}
use Rattle.pool_rows.specs.declared.Counts.{Counts}
use Rattle.pool.specs.declared.Added.{Added}
use Rattle.pool.specs.declared.AddError.{AddError}
use Rattle.pool_lent.specs.Entries.{numbers_of}
use Rattle.pool_lent.specs.declared.Entry.{Entry}

-- an answer's numbers
pub record AddedTold (added : Result Added AddError) (index place r : ℕ) : Type 0 where
  pub number : r ≡ number_of added
  pub index_is : index ≡ added_index added
  pub place_is : place ≡ place_of added

-- what `koto_add_string` ensures: the answer's numbers, and the rows and the counts that it leaves
pub record AddStringIs (string bytes : List ℕ) (entries : List Entry) (counts : Counts) (new_bytes : List ℕ) (new_entries : List Entry)
    (newCounts : Counts) (index place r : ℕ) : Type 0 where
  pub told : AddedTold (added string bytes (numbers_of entries) counts) index place r
  pub bytes_left : new_bytes ≡ bytes_after string counts (added string bytes (numbers_of entries) counts) bytes
  pub entries_left : numbers_of new_entries ≡ entries_after string counts (added string bytes (numbers_of entries) counts) (numbers_of entries)
  pub counts_left : newCounts ≡ counts_after counts (added string bytes (numbers_of entries) counts)
