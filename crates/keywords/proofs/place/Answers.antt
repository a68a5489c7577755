-- `keywords::place` meets its contract: the sum fits, and is the definition's. Assumes nothing.
use mathlib.Core.Path.{refl}
use Rattle.keywords.specs.Places.{place_by}
use Rattle.keywords.proofs.place.Goals as goal

pub returns : goal.returns
unfolding place_by
returns c = refl
