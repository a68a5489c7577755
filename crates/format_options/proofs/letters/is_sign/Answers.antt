-- `format_options::letters::is_sign` meets its contract: each way through the tests is a case of it. Assumes nothing.
use mathlib.Core.Path.{sym}
use Rattle.base.specs.CasesLaws.{cases}
use Rattle.format_options.specs.Letters.{is_sign}
use Rattle.format_options.proofs.letters.is_sign.Goals as goal

pub returns-then-c-eq-LESS : goal.returns-then-c-eq-LESS
unfolding is_sign
returns-then-c-eq-LESS c = sym (search cases)

pub returns-then-c-eq-CARET : goal.returns-then-c-eq-CARET
unfolding is_sign
returns-then-c-eq-CARET c = sym (search cases)

pub returns-else-c-eq-CARET : goal.returns-else-c-eq-CARET
unfolding is_sign
returns-else-c-eq-CARET c = sym (search cases)
