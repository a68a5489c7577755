-- `profile::is_inner` meets its contract: each return is a case of its `pick`. Assumes nothing.
use mathlib.Core.Path.{sym}
use Rattle.base.specs.CasesLaws.{cases}
use Rattle.profile.proofs.is_inner.Goals as goal

pub returns-then-depth-eq3 : goal.returns-then-depth-eq3
returns-then-depth-eq3 c = sym (search cases)

pub returns : goal.returns
returns c = sym (search cases)
