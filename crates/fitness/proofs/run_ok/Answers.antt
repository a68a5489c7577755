-- `fitness::run_ok` meets its contract: its two tests are the run rules, by `run_parts`. Assumes nothing.
use mathlib.Core.Path.{sym}
use Rattle.fitness.specs.QuickLaws.{run_parts}
use Rattle.fitness.proofs.run_ok.Goals as goal

pub returns : goal.returns
returns c = rw (c.follows.ensures, c.within.ensures) (sym (run_parts _ _))
