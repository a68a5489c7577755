-- `asked::are_numbers` meets its contract: each return is a case of its definition. Assumes nothing.
use mathlib.Core.Path.{sym}
use Rattle.base.specs.CasesLaws.{cases}
use Rattle.asked.specs.Fields.{are_numbers}
use Rattle.asked.proofs.are_numbers.Goals as goal

pub returns-then-is_width : goal.returns-then-is_width
unfolding are_numbers
returns-then-is_width c = sym (search cases depth 12 fits 4000)

pub returns-else-is_width : goal.returns-else-is_width
unfolding are_numbers
returns-else-is_width c = sym (search cases depth 12 fits 4000)
