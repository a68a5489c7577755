-- `name_runs::run_at` meets its contract: each return is a case of `over_at`. Assumes nothing.
use borrow.Author.Tests.{eq-eqb, ne_eqb}
use Rattle.name_runs.specs.Runs.{over_at}
use Rattle.name_runs.proofs.run_at.Goals as goal

pub returns-then-number-table : goal.returns-then-number-table
unfolding over_at
returns-then-number-table c = rw (eq-eqb _ _ c.if-number-table.true)

pub returns : goal.returns
unfolding over_at
returns c = rw (ne_eqb _ _ c.if-number-table.false)
