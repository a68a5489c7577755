-- `stays` of `skip::But` meets its contract: the same tests in the same order. Assumes nothing.
use Rattle.skip.specs.Skip.{stays_but}
use Rattle.skip.proofs.ButStays.stays.Goals as goal

pub returns : goal.returns
unfolding stays_but
returns c = rw c.between.ensures
