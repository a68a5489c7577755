-- `parse::read` meets its contract: the code takes the tests of `input_of` in its order. Assumes nothing.
use Rattle.std.proofs.Common.{rules}
use mathlib.Core.Path.{sym, ◌∙◌}
use Rattle.fitness.specs.FitLaws.{fit_of}
use Rattle.input.specs.InputLaws.{fine_of}
use Rattle.parse.specs.PlanLaws.{is_refused, is_unfit, is_read}
use Rattle.parse.proofs.read.Goals as goal

pub read_format-requires : goal.read_format-requires
read_format-requires c =
    let g = fine_of _ _ _ _ (sym c.check_input.ensures ∙ c.in_ok-check_input.was) in
    (g.well, g.short, (fit_of _ g.fit).rises)

pub returns-then-fit : goal.returns-then-fit
returns-then-fit c =
    sym (is_read _ _ _ _ (sym c.check_input.ensures ∙ c.in_ok-check_input.was) c.if-fit.true c.read_format.ensures)

pub returns-in_err-check_input : goal.returns-in_err-check_input
returns-in_err-check_input c =
    let a = c.args in
    rw (is_refused a.format.now a.table.now a.terms.edition a.fit (sym c.check_input.ensures ∙ c.in_err-check_input.was)) (search rules)

pub returns : goal.returns
returns c =
    sym (is_unfit _ _ _ _ (sym c.check_input.ensures ∙ c.in_ok-check_input.was) c.if-fit.false)
