-- `foreign::is_right` meets its contract: its tests are those of `is_right`. Assumes nothing.
use mathlib.Core.Path.{sym}
use Rattle.base.specs.CasesLaws.{cases}
use Rattle.foreign.proofs.is_right.Goals as goal

pub returns-then-count-read : goal.returns-then-count-read
returns-then-count-read c = sym (search cases depth 8)

pub returns-else-count-read : goal.returns-else-count-read
returns-else-count-read c = sym (search cases depth 8)

pub returns-else-apart-read : goal.returns-else-apart-read
returns-else-apart-read c = sym (search cases depth 8)
