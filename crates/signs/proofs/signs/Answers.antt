-- `signs::signs` meets its contract: a test at each of the 512 places, which antt computes. Assumes nothing.
use mathlib.Core.Path.{refl}
use Rattle.base.specs.All.{all_good}
use Rattle.words.specs.Words.{first_in}
use Rattle.signs.specs.TableLaws.{sign_table}
use Rattle.signs.proofs.signs.Goals as goal

pub returns : goal.returns
unfolding all_good first_in
returns c = sign_table _ refl
