-- The promises of the pool's long forms, `pool_lent::add_string` and `parse_lent::parse`: those of the flat calls, over the numbers of the
-- entries; the counts that are left; and that no second answer, no second rows and no second counts fit.
--     lent_add_string_promise, lent_add_string_has_one_answer
--     lent_parse_promise, lent_parse_has_one_answer
-- Assumes nothing.
use Rattle.std.specs.Prelude.{◌≡◌, List, ℕ, Result}
use Rattle.pool.specs.Pool.{counts_after}
use Rattle.pool_rows.specs.declared.Counts.{Counts}
use Rattle.pool.specs.declared.Added.{Added}
use Rattle.pool.specs.declared.AddError.{AddError}
use Rattle.pool_lent.specs.Entries.{numbers_of, AddsEntry}
use Rattle.pool_lent.specs.EntriesLaws as entries
use Rattle.pool_lent.specs.declared.Entry.{Entry}
use Rattle.parse.specs.declared.Parsed.{Parsed}
use Rattle.parse.specs.declared.ParseError.{ParseError}
use Rattle.parse_lent.specs.Lent.{ParsesEntries}
use Rattle.parse_lent.specs.LentLaws as lent
use Rattle.promises.specs.Pool.{AddStringPromise}
use Rattle.promises.specs.PoolLaws.{add_string_promise}
use Rattle.promises.specs.Parse.{ParsePromise}
use Rattle.promises.specs.ParseLaws.{parse_promise}

-- ---- adding a string

pub lent_add_string_promise : {string bytes new_bytes : List ℕ} {entries new_entries : List Entry} {counts newCounts : Counts} {r : Result Added AddError}
    → AddsEntry string counts bytes entries new_bytes new_entries newCounts r
    → AddStringPromise string counts bytes (numbers_of entries) new_bytes (numbers_of new_entries) r × (newCounts ≡ counts_after counts r)
lent_add_string_promise p = (add_string_promise _ _ _ _ _ _ _ p.same, p.counts_left)

pub lent_add_string_has_one_answer : {string bytes new_bytes newBytes' : List ℕ} {entries new_entries newEntries' : List Entry}
    {counts newCounts newCounts' : Counts} {r q : Result Added AddError}
    → AddsEntry string counts bytes entries new_bytes new_entries newCounts r
    → AddsEntry string counts bytes entries newBytes' newEntries' newCounts' q
    → (r ≡ q) × (new_bytes ≡ newBytes') × (new_entries ≡ newEntries') × (newCounts ≡ newCounts')
lent_add_string_has_one_answer v w = entries.one_outcome v w

-- ---- parsing format options

pub lent_parse_promise : {format table : List ℕ} {edition : ℕ} {bytes new_bytes : List ℕ} {entries new_entries : List Entry} {counts newCounts : Counts} {r : Result Parsed ParseError}
    → ParsesEntries format table edition bytes entries counts new_bytes new_entries newCounts r
    → ParsePromise format table edition bytes (numbers_of entries) counts new_bytes (numbers_of new_entries) (record { answer = r; counts = newCounts })
lent_parse_promise p = parse_promise _ _ _ _ _ _ _ _ _ p.flat

pub lent_parse_has_one_answer : {format table : List ℕ} {edition : ℕ} {bytes new_bytes newBytes' : List ℕ} {entries new_entries newEntries' : List Entry}
    {counts newCounts newCounts' : Counts} {r q : Result Parsed ParseError}
    → ParsesEntries format table edition bytes entries counts new_bytes new_entries newCounts r
    → ParsesEntries format table edition bytes entries counts newBytes' newEntries' newCounts' q
    → (r ≡ q) × (new_bytes ≡ newBytes') × (new_entries ≡ newEntries') × (newCounts ≡ newCounts')
lent_parse_has_one_answer v w = lent.one_outcome v w
