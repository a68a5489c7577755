-- `fitness::small_table` meets its contract: the constant is the definition's list, number by number. Assumes nothing.
use mathlib.Core.Path.{refl}
use Rattle.fitness.specs.Small.{small_table}
use Rattle.fitness.proofs.small_table.Goals as goal

pub returns : goal.returns
unfolding small_table
returns c = refl
