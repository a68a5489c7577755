-- How the contract of `koto_parse` comes of the inner call's and of what is told of its answer.
-- Assumes nothing.
use Rattle.std.specs.Prelude.{ℕ, List, Result}
use Rattle.std.proofs.Common.{subst}
use Rattle.pool_rows.specs.declared.Counts.{Counts}
use Rattle.parse.specs.declared.Parsed.{Parsed}
use Rattle.parse.specs.declared.ParseError.{ParseError}
use Rattle.pool_lent.specs.declared.Entry.{Entry}
use Rattle.parse_lent.specs.Lent.{ParsesEntries}
use Rattle.koto_pool.specs.Formats.{ParsedTold, ParseIs}

pub parsed_told : {format table bytes new_bytes options : List ℕ} {entries new_entries : List Entry} {counts newCounts : Counts}
    {edition value r : ℕ} {d : Result Parsed ParseError} → ParsesEntries format table edition bytes entries counts new_bytes new_entries newCounts d
    → ParsedTold d options value r
    → ParseIs format table edition bytes entries counts new_bytes new_entries newCounts options value r
parsed_told {options} {value} {r} e t =
    record {
      told = subst (λ (p : Result Parsed ParseError). ParsedTold p options value r) e.flat.answer_is t;
      bytes_left = e.flat.bytes_left;
      entries_left = e.flat.entries_left;
      counts_left = e.flat.counts_left;
    }
