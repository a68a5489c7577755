-- `fitness::first_bad_run` meets its contract. Where the quick test finds no bad run there is none. The loop's invariant: the first bad
-- run from i on is the first bad run. Assumes nothing.
use lib.ListN.{length}
use Rattle.fitness.specs.Fit.{run_ok}
use Rattle.fitness.specs.FirstLaws.{Going}
use Rattle.fitness.proofs.first_bad_run.Given as goal

abbrev pub invariant-loop-i : goal.invariant-loop-i
invariant-loop-i l = Going (run_ok l.table) (length l.table) l.i
