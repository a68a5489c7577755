-- `fitness::all_runs_ok` meets its contract. The loop's invariant is `Quick`: what was found of the runs below i. Assumes nothing.
use Rattle.fitness.specs.QuickLaws.{Quick}
use Rattle.fitness.proofs.all_runs_ok.Given as goal

abbrev pub invariant-loop-i : goal.invariant-loop-i
invariant-loop-i l = Quick l.table l.ok l.i
