-- `pad_input::check_pad` meets its contract: the code takes the tests of `pad_check` in its order. Assumes nothing.
use Rattle.std.proofs.Common.{rules}
use mathlib.Core.Path.{sym, ◌∙◌}
use Rattle.fitness.specs.FitLaws.{fit_of}
use Rattle.input.specs.InputLaws.{fine_of}
use Rattle.pad_input.specs.Check.{pad_check}
use Rattle.pad_input.proofs.Tests.{checks}
use Rattle.pad_input.proofs.check_pad.Goals as goal

pub returns-then-is_long : goal.returns-then-is_long
unfolding pad_check
returns-then-is_long c = sym (search checks depth 14)

pub check_fill-requires : goal.check_fill-requires
check_fill-requires c =
    fit_of _ (fine_of _ _ _ _ (sym c.check_input.ensures ∙ c.in_ok-check_input.was)).fit

pub returns-in_err-check_input : goal.returns-in_err-check_input
unfolding pad_check
returns-in_err-check_input c =
    rw (sym c.is_long.ensures ∙ c.if-is_long.false, sym c.check_input.ensures ∙ c.in_err-check_input.was) (search rules)

pub returns-in-Some : goal.returns-in-Some
unfolding pad_check
returns-in-Some c =
    rw (sym c.is_long.ensures ∙ c.if-is_long.false, sym c.check_input.ensures ∙ c.in_ok-check_input.was, c.in-Some.is) c.check_fill.ensures

pub returns-in-None : goal.returns-in-None
unfolding pad_check
returns-in-None c =
    rw (sym c.is_long.ensures ∙ c.if-is_long.false, sym c.check_input.ensures ∙ c.in_ok-check_input.was, c.in-None.is) c.check_format.ensures
