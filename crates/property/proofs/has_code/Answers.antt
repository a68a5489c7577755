-- `property::has_code` meets its contract: each return is a case of `has_code`. Assumes nothing.
use mathlib.Core.Path.{sym}
use Rattle.base.specs.CasesLaws.{cases}
use Rattle.property.specs.Near.{has_code}
use Rattle.property.proofs.has_code.Goals as goal

pub returns-then-table-run : goal.returns-then-table-run
unfolding has_code
returns-then-table-run c = sym (search cases)

pub returns-then-code-table : goal.returns-then-code-table
unfolding has_code
returns-then-code-table c = sym (search cases)

pub returns-then-run-table : goal.returns-then-run-table
unfolding has_code
returns-then-run-table c = sym (search cases)

pub returns : goal.returns
unfolding has_code
returns c = sym (search cases)
