-- `text::is_line_end` meets its contract: each return is a case of `is_line_end`.
-- Assumes nothing.
use mathlib.Core.Path.{sym}
use Rattle.base.specs.CasesLaws.{cases}
use Rattle.text.specs.Tests.{is_line_end}
use Rattle.text.proofs.is_line_end.Goals as goal

pub returns-then-code-eq10 : goal.returns-then-code-eq10
unfolding is_line_end
returns-then-code-eq10 c = sym (search cases)

pub returns-else-code-eq10 : goal.returns-else-code-eq10
unfolding is_line_end
returns-else-code-eq10 c = sym (search cases)
