-- `options::is_alignment` meets its contract: each way through the tests is a case of it. Assumes nothing.
use mathlib.Core.Path.{sym}
use Rattle.base.specs.CasesLaws.{cases}
use Rattle.options.proofs.is_alignment.Goals as goal

pub returns-then-b-eq60 : goal.returns-then-b-eq60
returns-then-b-eq60 c = sym (search cases)

pub returns-then-b-eq94 : goal.returns-then-b-eq94
returns-then-b-eq94 c = sym (search cases)

pub returns-else-b-eq94 : goal.returns-else-b-eq94
returns-else-b-eq94 c = sym (search cases)
