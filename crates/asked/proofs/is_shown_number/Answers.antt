-- `asked::is_shown_number` meets its contract: each return is a case of its definition. Assumes nothing.
use mathlib.Core.Path.{sym}
use Rattle.base.specs.CasesLaws.{cases}
use Rattle.asked.specs.Fields.{is_shown_number}
use Rattle.asked.proofs.is_shown_number.Goals as goal

pub returns-then-representation-eq-NONE : goal.returns-then-representation-eq-NONE
unfolding is_shown_number
returns-then-representation-eq-NONE c = sym (search cases depth 12 fits 4000)

pub returns-else-representation-eq-NONE : goal.returns-else-representation-eq-NONE
unfolding is_shown_number
returns-else-representation-eq-NONE c = sym (search cases depth 12 fits 4000)
