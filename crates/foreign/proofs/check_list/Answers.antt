-- `foreign::check_list` meets its contract: a refusal of `check_input` is the answer, then 8, and else what `compare` says. Assumes nothing.
use Rattle.std.proofs.Common.{rules}
use mathlib.Core.Path.{sym, ◌∙◌}
use native.Mathlib.Omega.{arith}
use Rattle.fitness.specs.FitLaws.{fit_of}
use Rattle.input.specs.InputLaws.{fine_of}
use Rattle.foreign.specs.CheckLaws.{is_refused, is_short, is_compared}
use Rattle.foreign.proofs.check_list.Goals as goal

pub returns-then-room-count : goal.returns-then-room-count
returns-then-room-count c =
    is_short _ _ _ _ _ _ (sym c.check_input.ensures ∙ c.in_ok-check_input.was) (omega (arith, c.if-room-count.true, c.room.ensures))

pub compare-requires : goal.compare-requires
compare-requires c =
    let g = fine_of _ _ _ _ (sym c.check_input.ensures ∙ c.in_ok-check_input.was) in
    (g.short, g.well, fit_of _ g.fit, omega (arith, c.if-room-count.false, c.room.ensures))

pub returns-in_err-check_input : goal.returns-in_err-check_input
returns-in_err-check_input c =
    let a = c.args in
    rw (sym (is_refused a.source.now a.table.now a.edition a.list.now a.count a.status (sym c.check_input.ensures ∙ c.in_err-check_input.was))) (search rules)

pub returns : goal.returns
returns c =
    is_compared _ _ _ _ _ _ (sym c.check_input.ensures ∙ c.in_ok-check_input.was) (omega (arith, c.if-room-count.false, c.room.ensures))
    c.compare.ensures
