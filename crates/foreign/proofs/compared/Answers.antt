-- `foreign::compared` meets its contract: its test is that of `compared`. Assumes nothing.
use mathlib.Core.Path.{sym}
use Rattle.base.specs.CasesLaws.{chain}
use Rattle.foreign.proofs.compared.Goals as goal

pub returns-then-is_right : goal.returns-then-is_right
returns-then-is_right c = sym (search chain)

pub returns : goal.returns
returns c = sym (search chain)
