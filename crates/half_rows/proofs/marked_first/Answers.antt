-- `half_rows::marked_first` meets its contract: bit 28 is added where the record stands still. Assumes nothing.
use native.Mathlib.Omega.{arith}
use Rattle.half_rows.proofs.marked_first.Goals as goal

pub returns-then-still : goal.returns-then-still
returns-then-still c = rw c.if-still.true (omega (arith, c.first_of.ensures))

pub returns : goal.returns
returns c = rw c.if-still.false (omega (arith, c.first_of-2.ensures))
