-- `pool_rows::room_of` meets its contract: both answers are cases of `room_of`. Assumes nothing.
use mathlib.Core.Path.{sym}
use Rattle.base.specs.CasesLaws.{cases}
use Rattle.pool_rows.specs.Rows.{room_of}
use Rattle.pool_rows.proofs.room_of.Goals as goal

pub returns-then-most : goal.returns-then-most
unfolding room_of
returns-then-most c = sym (search cases)

pub returns : goal.returns
unfolding room_of
returns c = sym (search cases)
