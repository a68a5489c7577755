-- `token::detail_allowed` meets its contract: the kind decides which test is asked of the detail. Assumes nothing.
use mathlib.Core.Path.{sym}
use Rattle.base.specs.CasesLaws.{cases}
use Rattle.token.proofs.detail_allowed.Goals as goal

pub returns-then-kind : goal.returns-then-kind
returns-then-kind c = sym (search cases)

pub returns : goal.returns
returns c = sym (search cases)
