-- `decimal::put_digits` meets its contract: `Putting` is what the loop keeps, and the number that is left its measure. Assumes nothing.
use Rattle.decimal.proofs.Putting.{Putting}
use Rattle.decimal.proofs.put_digits.Given as goal

abbrev pub invariant-loop-rest : goal.invariant-loop-rest
invariant-loop-rest l = Putting l.initial.row l.at l.n l.row l.i l.rest

abbrev pub decreases-loop-rest : goal.decreases-loop-rest
decreases-loop-rest l = l.rest
