-- A law of the long form: no second answer, and no second rows and counts, fit `ParsesEntries`.
-- Assumes nothing.
use Rattle.std.specs.Prelude.{ℕ, ◌≡◌, List, Result}
use Rattle.std.proofs.Common.{ap}
use Rattle.pool_rows.specs.declared.Counts.{Counts}
use Rattle.pool_lent.specs.EntriesLaws.{same_numbers}
use Rattle.pool_lent.specs.declared.Entry.{Entry}
use Rattle.parse.specs.CallLaws.{one_answer}
use Rattle.parse.specs.declared.After.{After}
use Rattle.parse.specs.declared.Parsed.{Parsed}
use Rattle.parse.specs.declared.ParseError.{ParseError}
use Rattle.parse_lent.specs.Lent.{ParsesEntries}

pub one_outcome : {format table bytes new_bytes newBytes' : List ℕ} {edition : ℕ} {entries new_entries newEntries' : List Entry}
    {counts newCounts newCounts' : Counts} {r q : Result Parsed ParseError}
    → ParsesEntries format table edition bytes entries counts new_bytes new_entries newCounts r
    → ParsesEntries format table edition bytes entries counts newBytes' newEntries' newCounts' q
    → (r ≡ q) × (new_bytes ≡ newBytes') × (new_entries ≡ newEntries') × (newCounts ≡ newCounts')
one_outcome v w =
    let p = one_answer v.flat w.flat in
    (ap (λ (x : After). x.answer) p.0, p.1, same_numbers _ _ p.2, ap (λ (x : After). x.counts) p.0)
