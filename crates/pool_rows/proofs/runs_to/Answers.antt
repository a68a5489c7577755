-- `pool_rows::runs_to` meets its contract: `Running` is what the loop keeps. Each start is the end before it, a number of 32 bits, so that no sum
-- of it and a length passes 8,589,934,590. Assumes nothing.
use mathlib.Core.Path.{sym, ◌∙◌}
use native.Mathlib.Omega.{arith}
use Rattle.pool_rows.proofs.Loops.{run, broken, one_run, all_run}
use Rattle.pool_rows.proofs.runs_to.Goals as goal

pub loop-i-init : goal.loop-i-init
loop-i-init g c = (omega arith, run _ _ _)

pub returns-then-start-next : goal.returns-then-start-next
returns-then-start-next g c =
    broken _ _ _ _ _ c.loop-i.invariant.1 (omega arith) (λ e. c.if-start-next.true (c.start-start.ensures ∙ e))

pub loop-i-preserved : goal.loop-i-preserved
loop-i-preserved g c = (
  omega arith,
  rw (c.start-start.ensures, c.len.ensures) (one_run _ _ _ _ _ c.loop-i.invariant.1 (omega arith) (sym c.start-start.ensures ∙ c.if-start-next.false)),
)

pub returns : goal.returns
returns g c = all_run _ _ _ _ _ c.loop-i.invariant.1 (omega arith)
