-- `fitness::properties_ok` meets its contract: its tests are those of `properties_ok`, the second told without a branch. Assumes nothing.
use Rattle.fitness.specs.Fit.{properties_ok}
use Rattle.fitness.specs.QuickLaws.{unless}
use Rattle.fitness.proofs.properties_ok.Goals as goal

pub returns : goal.returns
unfolding properties_ok
returns c =
    rw (← c.class_of.ensures, ← c.is_id_start.ensures, ← c.is_id_continue.ensures, unless c.is_id_start.result)
