-- `profile::is_forbidden` meets its contract: each return is a case of its `pick`. Assumes nothing.
use mathlib.Core.Path.{sym}
use Rattle.base.specs.CasesLaws.{cases}
use Rattle.profile.proofs.is_forbidden.Goals as goal

pub returns-then-row : goal.returns-then-row
returns-then-row c = sym (search cases)

pub returns-then-row-2 : goal.returns-then-row-2
returns-then-row-2 c = sym (search cases)

pub returns : goal.returns
returns c = sym (search cases)
