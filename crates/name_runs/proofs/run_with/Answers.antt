-- `name_runs::run_with` meets its contract: halving finds the run, or the code point is in this one. Assumes nothing.
use Rattle.name_runs.specs.RunsLaws.{run_has, keeps_has}
use Rattle.name_runs.proofs.run_with.Goals as goal

pub run_at-requires : goal.run_at-requires
run_at-requires c = c.run_of.ensures.within

pub returns-then-code-run : goal.returns-then-code-run
returns-then-code-run c =
    let run = c.run_of.ensures in
    run_has _ c.requires.0 _ run.within _ c.run_at.ensures run

pub run_at-requires-then-run-code : goal.run_at-requires-then-run-code
run_at-requires-then-run-code c = c.run_of-then-run-code.ensures.within

pub returns-then-run-code : goal.returns-then-run-code
returns-then-run-code c =
    let run = c.run_of-then-run-code.ensures in
    run_has _ c.requires.0 _ run.within _ c.run_at-then-run-code.ensures run

pub returns : goal.returns
returns c =
    keeps_has _ c.requires.1 c.if-code-run.false c.if-run-code.false
