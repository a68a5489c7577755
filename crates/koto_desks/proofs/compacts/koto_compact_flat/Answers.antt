-- `compacts::koto_compact_flat` meets its contract: the number is that of the answer, and so are the counts and the desks. Assumes nothing.
use Rattle.koto_desks.specs.CompactsLaws.{compact_told_lem}
use Rattle.koto_desks.proofs.compacts.koto_compact_flat.Goals as goal

pub returns : goal.returns
returns c =
    let a = c.args in
    compact_told_lem a.counts.now a.desks.now c.counts_in-had.ensures c.desks_in-both.ensures c.compact-compaction.ensures
    c.counts_after.ensures c.count_words.ensures c.desks_after.ensures
    c.desk_words.ensures c.number_of.ensures
