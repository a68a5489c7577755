-- `fitness::follows` meets its contract: its two tests are those of `follows_ok`. Assumes nothing.
use Rattle.fitness.specs.Quick.{follows_ok}
use Rattle.fitness.proofs.follows.Goals as goal

pub returns : goal.returns
unfolding follows_ok
returns c = rw (c.start_ok.ensures, c.properties_ok.ensures)
