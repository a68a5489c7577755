-- How the contract of `koto_add_string` comes of the inner call's and of what is told of its answer.
-- Assumes nothing.
use Rattle.std.specs.Prelude.{ℕ, List, Result}
use Rattle.std.proofs.Common.{ap, subst, ◌∙◌}
use Rattle.pool.specs.Pool.{counts_after}
use Rattle.pool_rows.specs.declared.Counts.{Counts}
use Rattle.pool.specs.declared.Added.{Added}
use Rattle.pool.specs.declared.AddError.{AddError}
use Rattle.pool_lent.specs.declared.Entry.{Entry}
use Rattle.pool_lent.specs.Entries.{AddsEntry}
use Rattle.koto_pool.specs.Pools.{AddedTold, AddStringIs}

pub added_told_lem : {string bytes new_bytes : List ℕ} {entries new_entries : List Entry} {counts newCounts : Counts} {index place r : ℕ}
    {d : Result Added AddError} → AddsEntry string counts bytes entries new_bytes new_entries newCounts d → AddedTold d index place r
    → AddStringIs string bytes entries counts new_bytes new_entries newCounts index place r
added_told_lem {counts} {index} {place} {r} e t =
    record {
      told = subst (λ (b : Result Added AddError). AddedTold b index place r) e.same.answer t;
      bytes_left = e.same.bytes_left;
      entries_left = e.same.entries_left;
      counts_left = e.counts_left ∙ ap (counts_after counts) e.same.answer;
    }
