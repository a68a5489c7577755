-- `format_options::letters::char_to_alignment` meets its contract: each way through the tests is a case of it. Assumes nothing.
use mathlib.Core.Path.{sym}
use Rattle.base.specs.CasesLaws.{cases}
use Rattle.format_options.specs.Letters.{char_to_alignment}
use Rattle.format_options.proofs.letters.char_to_alignment.Goals as goal

pub returns-then-c-eq-LESS : goal.returns-then-c-eq-LESS
unfolding char_to_alignment
returns-then-c-eq-LESS c = sym (search cases)

pub returns-then-c-eq-CARET : goal.returns-then-c-eq-CARET
unfolding char_to_alignment
returns-then-c-eq-CARET c = sym (search cases)

pub returns : goal.returns
unfolding char_to_alignment
returns c = sym (search cases)
