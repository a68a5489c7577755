-- `scan::full` meets its contract: its test is that of `whole`. Assumes nothing.
use mathlib.Core.Path.{sym}
use Rattle.base.specs.CasesLaws.{cases}
use Rattle.scan.proofs.full.Goals as goal

pub returns-then-count-room : goal.returns-then-count-room
returns-then-count-room c = sym (search cases)

pub returns : goal.returns
returns c = sym (search cases)
