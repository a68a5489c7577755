-- `lexer::stood_still` meets its contract: each return is a case of `stood_still`.
-- Assumes nothing.
use mathlib.Core.Path.{sym}
use Rattle.base.specs.CasesLaws.{cases}
use Rattle.lexer.specs.Step.{stood_still}
use Rattle.lexer.proofs.stood_still.Goals as goal

pub returns-then-taken-eq-ERROR : goal.returns-then-taken-eq-ERROR
unfolding stood_still
returns-then-taken-eq-ERROR c = sym (search cases)

pub returns-else-taken-eq-ERROR : goal.returns-else-taken-eq-ERROR
unfolding stood_still
returns-else-taken-eq-ERROR c = sym (search cases)
