-- The long form of the public call `parse`: document 01, "Where each language form goes". The pool is lent as a row of entry records and
-- with its counts. What it does to them is what the flat call of the crate `parse` does to the row of the entries' numbers.
-- Assumes nothing.
use Rattle.std.specs.Prelude.{ℕ, List, Result}
use Rattle.pool_rows.specs.declared.Counts.{Counts}
use Rattle.pool_lent.specs.Entries.{numbers_of}
use Rattle.pool_lent.specs.declared.Entry.{Entry}
use Rattle.parse.specs.Call.{Parses}
use Rattle.parse.specs.declared.Parsed.{Parsed}
use Rattle.parse.specs.declared.ParseError.{ParseError}

-- what `parse` ensures: the flat contract, of the entries' numbers before and after, the answer, and the counts after
pub record ParsesEntries (format table : List ℕ) (edition : ℕ) (bytes : List ℕ) (entries : List Entry) (counts : Counts)
    (new_bytes : List ℕ) (new_entries : List Entry) (newCounts : Counts) (r : Result Parsed ParseError) : Type 0 where
  pub flat :
      Parses format table edition bytes (numbers_of entries) counts new_bytes (numbers_of new_entries) (record { answer = r; counts = newCounts })
