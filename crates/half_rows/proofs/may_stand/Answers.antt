-- `half_rows::may_stand` meets its contract: its tests are those of `may_stand`, in their order. Assumes nothing.
use mathlib.Core.Path.{sym}
use Rattle.base.specs.CasesLaws.{cases}
use Rattle.half_rows.proofs.may_stand.Goals as goal

pub returns-then-first-eq-ERROR : goal.returns-then-first-eq-ERROR
returns-then-first-eq-ERROR c = sym (search cases)

pub returns-else-first-eq-ERROR : goal.returns-else-first-eq-ERROR
returns-else-first-eq-ERROR c = sym (search cases)

pub returns-else-first-eq1 : goal.returns-else-first-eq1
returns-else-first-eq1 c = sym (search cases)
