-- `bytes::koto_check_utf8` meets its contract: each number is that of the check. Assumes nothing.
use mathlib.Core.Path.{ap, ◌∙◌}
use Rattle.utf8.specs.Answer.{number_of, place_of}
use Rattle.koto_text.proofs.bytes.koto_check_utf8.Goals as goal

pub returns : goal.returns
returns c =
    let e = c.check_utf8-check.ensures in
    record {
      number = c.check_number.ensures ∙ ap number_of e;
      place_is = c.check_place.ensures ∙ ap place_of e;
    }
