-- `text::is_binary_digit` meets its contract: each return is a case of `is_binary_digit`.
-- Assumes nothing.
use mathlib.Core.Path.{sym}
use Rattle.base.specs.CasesLaws.{cases}
use Rattle.text.specs.Tests.{is_binary_digit}
use Rattle.text.proofs.is_binary_digit.Goals as goal

pub returns-then-between : goal.returns-then-between
unfolding is_binary_digit
returns-then-between c = sym (search cases)

pub returns-else-between : goal.returns-else-between
unfolding is_binary_digit
returns-else-between c = sym (search cases)
