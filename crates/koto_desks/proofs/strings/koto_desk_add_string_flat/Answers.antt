-- `strings::koto_desk_add_string_flat` meets its contract: each number is that of the answer. Assumes nothing.
use Rattle.koto_desks.specs.StringsLaws.{told}
use Rattle.koto_desks.proofs.strings.koto_desk_add_string_flat.Goals as goal

pub returns : goal.returns
returns c =
    let a = c.args in
    told a.counts.now a.desks.now c.counts_in-had.ensures c.desks_in-both.ensures c.add_from-answered.ensures c.count_words.ensures
    c.desk_words.ensures c.index_of.ensures c.place_of.ensures c.number_of.ensures
