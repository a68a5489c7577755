-- `fitness::first_bad_run` meets its contract. Where the quick test finds no bad run there is none. The loop's invariant: the first bad
-- run from i on is the first bad run. Assumes nothing.
use native.Mathlib.Omega.{arith}
use mathlib.Core.Path.{◌≡◌, sym, ◌∙◌}
use lib.ListN.{length}
use Rattle.fitness.specs.FirstLaws.{all_good_lem, start, next, here, done}
use Rattle.fitness.proofs.first_bad_run.Goals as goal

pub returns-then-all_runs_ok : goal.returns-then-all_runs_ok
returns-then-all_runs_ok c = let q = c.all_runs_ok in sym (all_good_lem _ _ (sym q.ensures ∙ c.if-all_runs_ok.true))

pub loop-i-init : goal.loop-i-init
loop-i-init c = start _ _

pub returns-then-not-run_ok : goal.returns-then-not-run_ok
returns-then-not-run_ok c =
    here _ _ _ c.loop-i.invariant (omega arith) (sym c.run_ok.ensures ∙ c.if-not-run_ok.true)

pub loop-i-preserved : goal.loop-i-preserved
loop-i-preserved c =
    next _ _ _ c.loop-i.invariant (omega arith) (sym c.run_ok.ensures ∙ c.if-not-run_ok.false)

pub returns : goal.returns
returns c =
    let all : c.loop-i.i ≡ length c.args.table.now = omega arith in
    sym all ∙ done _ _ _ c.loop-i.invariant c.loop-i-test.false
