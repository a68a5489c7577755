-- `koto_fast::koto_scan_fast` meets its contract: each number is that of the scan's answer, and the list is as it left it. Assumes nothing.
use mathlib.Core.Path.{ap, ◌∙◌}
use Rattle.reading.specs.Scan.{number_of, place_of, count_of}
use Rattle.reading.specs.Status.{status_of}
use Rattle.koto_fast.proofs.koto_scan_fast.Goals as goal

pub returns : goal.returns
returns c =
    let scan = c.scan_fast-scanned.ensures in
    record {
      number = c.number_of.ensures ∙ ap number_of scan.answer;
      status_is = c.status_of.ensures ∙ ap status_of scan.answer;
      count_is = c.count_of.ensures ∙ ap count_of scan.answer;
      byte_is = c.place_of.ensures ∙ ap place_of scan.answer;
      words = scan.words;
    }
