-- `profile::opener_after` meets its contract: each return is a case of its `pick`. Assumes nothing.
use mathlib.Core.Path.{sym}
use Rattle.base.specs.CasesLaws.{cases}
use Rattle.profile.proofs.opener_after.Goals as goal

pub returns-then-row-eq2 : goal.returns-then-row-eq2
returns-then-row-eq2 c = sym (search cases)

pub returns : goal.returns
returns c = sym (search cases)
