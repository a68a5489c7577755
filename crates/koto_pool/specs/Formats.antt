-- What `koto_parse` returns and writes, from the inner call's answer.
-- Assumes nothing.
use Rattle.std.specs.Prelude.{ℕ, ◌≡◌, List, Result}
use Rattle.pool_rows.specs.declared.Counts.{Counts}
use Rattle.pool_lent.specs.Entries as row
use Rattle.pool_lent.specs.declared.Entry.{Entry}
use Rattle.parse.specs.Call.{Comes, lent, call, number_of, value_of}
use Rattle.parse.specs.Numbers.{numbers_of}
use Rattle.parse.specs.declared.Parsed.{Parsed}
use Rattle.parse.specs.declared.ParseError.{ParseError}

-- an answer's numbers
pub record ParsedTold (parsed : Result Parsed ParseError) (options : List ℕ) (value r : ℕ) : Type 0 where
  pub number : r ≡ number_of parsed
  pub options_are : options ≡ numbers_of parsed
  pub value_is : value ≡ value_of parsed

-- what the inner call comes to, with the pool that is lent
abbrev pub parsed : List ℕ → List ℕ → ℕ → List ℕ → List Entry → Counts → Comes
parsed format table edition bytes entries counts = call format table edition (lent bytes (row.numbers_of entries) counts)

-- what `koto_parse` ensures: the answer's numbers, and the rows and the counts that it leaves
pub record ParseIs (format table : List ℕ) (edition : ℕ) (bytes : List ℕ) (entries : List Entry) (counts : Counts) (new_bytes : List ℕ)
    (new_entries : List Entry) (newCounts : Counts) (options : List ℕ) (value r : ℕ) : Type 0 where
  pub told : ParsedTold (parsed format table edition bytes entries counts).answer options value r
  pub bytes_left : new_bytes ≡ (parsed format table edition bytes entries counts).pool.bytes
  pub entries_left : row.numbers_of new_entries ≡ (parsed format table edition bytes entries counts).pool.entries
  pub counts_left : newCounts ≡ (parsed format table edition bytes entries counts).pool.counts
