-- `decimal::digit_count` meets its contract: `Counting` is what the loop keeps, and the number that is left its measure. Assumes nothing.
use native.Mathlib.Omega.{arith}
use Rattle.decimal.proofs.Counting.{counting_start, counting_more, counting_end}
use Rattle.decimal.proofs.digit_count.Goals as goal

pub loop-rest-init : goal.loop-rest-init
loop-rest-init c = counting_start _

pub overflow_add-count : goal.overflow_add-count
overflow_add-count c = omega (arith, c.loop-rest.invariant.most)

pub loop-rest-preserved : goal.loop-rest-preserved
loop-rest-preserved c = counting_more _ _ _ c.loop-rest.invariant (omega arith)

pub returns : goal.returns
returns c = counting_end _ _ _ c.loop-rest.invariant (omega arith)
