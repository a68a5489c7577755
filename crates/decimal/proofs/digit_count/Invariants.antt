-- `decimal::digit_count` meets its contract: `Counting` is what the loop keeps, and the number that is left its measure. Assumes nothing.
use Rattle.decimal.proofs.Counting.{Counting}
use Rattle.decimal.proofs.digit_count.Given as goal

abbrev pub invariant-loop-rest : goal.invariant-loop-rest
invariant-loop-rest l = Counting l.n l.count l.rest

abbrev pub decreases-loop-rest : goal.decreases-loop-rest
decreases-loop-rest l = l.rest
