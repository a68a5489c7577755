-- `text::is_name_part` meets its contract: each return is a case of `is_name_part`. Assumes nothing.
use mathlib.Core.Path.{sym}
use Rattle.base.specs.CasesLaws.{cases}
use Rattle.text.proofs.is_name_part.Goals as goal

pub returns-then-between : goal.returns-then-between
returns-then-between c = sym (search cases)

pub returns-then-between-2 : goal.returns-then-between-2
returns-then-between-2 c = sym (search cases)

pub returns-then-between-3 : goal.returns-then-between-3
returns-then-between-3 c = sym (search cases)

pub returns-else-between-3 : goal.returns-else-between-3
returns-else-between-3 c = sym (search cases)
