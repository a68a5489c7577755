-- `rescan::rescan` meets its contract: a refusal of `check_input` is the answer, and where there is none the rest answers. Assumes nothing.
use Rattle.std.proofs.Common.{rules}
use mathlib.Core.Path.{sym, ◌∙◌}
use Rattle.input.specs.InputLaws.{fine_of}
use Rattle.rescan.proofs.RescanLaws.{is_refused, is_readable}
use Rattle.rescan.proofs.rescan.Goals as goal

pub rescan_readable-requires : goal.rescan_readable-requires
rescan_readable-requires c =
    fine_of _ _ _ _ (sym c.check_input.ensures ∙ c.in_ok-check_input.was)

pub returns-in_err-check_input : goal.returns-in_err-check_input
returns-in_err-check_input c = is_refused (sym c.check_input.ensures ∙ c.in_err-check_input.was) (search rules)

pub returns : goal.returns
returns c =
    is_readable (sym c.check_input.ensures ∙ c.in_ok-check_input.was) c.rescan_readable.ensures
