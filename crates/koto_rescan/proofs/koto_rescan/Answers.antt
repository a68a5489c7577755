-- `koto_rescan::koto_rescan` meets its contract: each number is that of the answer, and the list is as it left it. Assumes nothing.
use mathlib.Core.Path.{ap, ◌∙◌}
use Rattle.rescan.specs.Rescan.{number_of, place_of, count_of, status_of}
use Rattle.koto_rescan.proofs.koto_rescan.Goals as goal

pub returns : goal.returns
returns c =
    let p = c.rescan-rescanned.ensures in
    record {
      number = c.number_of.ensures ∙ ap number_of p.answer;
      status_is = c.status_of.ensures ∙ ap status_of p.answer;
      count_is = c.count_of.ensures ∙ ap count_of p.answer;
      byte_is = c.place_of.ensures ∙ ap place_of p.answer;
      words = p.words;
    }
