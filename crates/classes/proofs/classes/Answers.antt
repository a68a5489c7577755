-- `classes::classes` meets its contract: a test at each of the 256 places, which antt computes. Assumes nothing.
use mathlib.Core.Path.{refl}
use Rattle.base.specs.All.{all_good}
use Rattle.base.specs.Range.{inside}
use Rattle.classes.specs.Classes.{class_of}
use Rattle.classes.specs.ClassesLaws.{class_table}
use Rattle.classes.proofs.classes.Goals as goal

pub returns : goal.returns
unfolding class_of inside all_good
returns c = class_table _ refl
