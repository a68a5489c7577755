-- `foreign::apart_after` meets its contract: its tests are those of `apart_after`, in their order. Assumes nothing.
use mathlib.Core.Path.{sym}
use Rattle.base.specs.CasesLaws.{cases}
use Rattle.foreign.proofs.apart_after.Goals as goal

pub returns-then-apart-read : goal.returns-then-apart-read
returns-then-apart-read c = sym (search cases)

pub returns-then-count-read : goal.returns-then-count-read
returns-then-count-read c = sym (search cases)

pub returns-then-is_row : goal.returns-then-is_row
returns-then-is_row c = sym (search cases depth 8)

pub returns : goal.returns
returns c = sym (search cases depth 8)
