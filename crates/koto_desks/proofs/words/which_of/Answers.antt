-- `words::which_of` meets its contract. Assumes nothing.
use mathlib.Core.Path.{sym}
use Rattle.base.specs.CasesLaws.{cases}
use Rattle.koto_desks.proofs.words.which_of.Goals as goal

pub returns-then-desk-eq0 : goal.returns-then-desk-eq0
returns-then-desk-eq0 c = sym (search cases)

pub returns : goal.returns
returns c = sym (search cases)
