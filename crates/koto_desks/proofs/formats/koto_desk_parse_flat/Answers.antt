-- `formats::koto_desk_parse_flat` meets its contract: each number is that of the answer. Assumes nothing.
use Rattle.koto_desks.specs.FormatsLaws.{told}
use Rattle.koto_desks.proofs.formats.koto_desk_parse_flat.Goals as goal

pub returns : goal.returns
returns c =
    let a = c.args in
    told a.counts.now a.desks.now c.counts_in.ensures c.desks_in-both.ensures c.parse_from-parsed.ensures c.count_words.ensures
    c.desk_words.ensures c.numbers_of.ensures c.value_of.ensures c.number_of.ensures
