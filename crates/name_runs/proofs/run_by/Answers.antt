-- `name_runs::run_by` meets its contract: every run is one. Assumes nothing.
use Rattle.name_runs.specs.RunsLaws.{run_is}
use Rattle.name_runs.proofs.run_by.Goals as goal

pub returns-then-near-table : goal.returns-then-near-table
returns-then-near-table c = run_is _ c.requires _ c.if-near-table.true c.run_at.ensures

pub run_at-requires-2 : goal.run_at-requires-2
run_at-requires-2 c = c.requires.some

pub returns : goal.returns
returns c = run_is _ c.requires _ c.requires.some c.run_at-2.ensures
