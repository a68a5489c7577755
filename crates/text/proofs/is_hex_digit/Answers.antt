-- `text::is_hex_digit` meets its contract: each return is a case of `is_hex_digit`.
-- Assumes nothing.
use mathlib.Core.Path.{sym}
use Rattle.base.specs.CasesLaws.{cases}
use Rattle.text.specs.Tests.{is_hex_digit}
use Rattle.text.proofs.is_hex_digit.Goals as goal

pub returns-then-between : goal.returns-then-between
unfolding is_hex_digit
returns-then-between c = sym (search cases)

pub returns-then-between-2 : goal.returns-then-between-2
unfolding is_hex_digit
returns-then-between-2 c = sym (search cases)

pub returns-then-between-3 : goal.returns-then-between-3
unfolding is_hex_digit
returns-then-between-3 c = sym (search cases)

pub returns-else-between-3 : goal.returns-else-between-3
unfolding is_hex_digit
returns-else-between-3 c = sym (search cases)
