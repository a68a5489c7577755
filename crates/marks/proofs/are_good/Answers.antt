-- `marks::are_good` meets its contract. Assumes nothing.
use mathlib.Core.Path.{sym}
use Rattle.base.specs.CasesLaws.{denied}
use Rattle.marks.specs.Marks.{good_marks}
use Rattle.marks.proofs.are_good.Goals as goal

pub returns-then-moved-n : goal.returns-then-moved-n
unfolding good_marks
returns-then-moved-n c = sym (search denied)

pub returns-then-are_given : goal.returns-then-are_given
unfolding good_marks
returns-then-are_given c = sym (search denied)

pub returns-else-are_given : goal.returns-else-are_given
unfolding good_marks
returns-else-are_given c = sym (search denied)
