-- `koto_check::koto_check_list` meets its contract: each number is that of the answer. Assumes nothing.
use mathlib.Core.Path.{ap, ◌∙◌}
use Rattle.foreign.specs.Check.{number_of, place_of, same_of, differs_of}
use Rattle.koto_check.proofs.koto_check_list.Goals as goal

pub returns : goal.returns
returns c =
    let p = c.check_list-checked.ensures in
    record {
      number = c.number_of.ensures ∙ ap number_of p;
      same_is = c.same_of.ensures ∙ ap same_of p;
      differs_is = c.differs_of.ensures ∙ ap differs_of p;
      place_is = c.place_of.ensures ∙ ap place_of p;
    }
