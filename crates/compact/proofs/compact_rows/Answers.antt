-- `compact::compact_rows` meets its contract. Assumes nothing.
use Rattle.compact.specs.CallLaws.{rows_kept}
use Rattle.compact.proofs.compact_rows.Goals as goal

pub returns : goal.returns
returns c =
    let p = c.requires in
    rows_kept _ _ _ _ _ _ _ _ _ _ _ _ _ _ _ p.counts_value.2 p.entries_value.0 p.entries_value.1 c.clear.ensures c.mark.ensures c.mark-2.ensures c.slide.ensures
