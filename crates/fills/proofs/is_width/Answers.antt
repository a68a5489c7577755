-- `fills::is_width` meets its contract: each return is a case of its definition. Assumes nothing.
use mathlib.Core.Path.{sym}
use Rattle.base.specs.CasesLaws.{cases}
use Rattle.fills.specs.Pad.{is_width}
use Rattle.fills.proofs.is_width.Goals as goal

pub returns-then-width-eq-NONE : goal.returns-then-width-eq-NONE
unfolding is_width
returns-then-width-eq-NONE c = sym (search cases)

pub returns-else-width-eq-NONE : goal.returns-else-width-eq-NONE
unfolding is_width
returns-else-width-eq-NONE c = sym (search cases)
