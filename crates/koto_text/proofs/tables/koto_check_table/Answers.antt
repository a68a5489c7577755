-- `tables::koto_check_table` meets its contract: each number is that of the check. Assumes nothing.
use mathlib.Core.Path.{ap, ◌∙◌}
use Rattle.fitness.specs.Fit.{number_of, place_of}
use Rattle.koto_text.proofs.tables.koto_check_table.Goals as goal

pub returns : goal.returns
returns c =
    let e = c.check_table-check.ensures in
    record {
      number = c.number_of.ensures ∙ ap number_of e;
      place_is = c.place_of.ensures ∙ ap place_of e;
    }
