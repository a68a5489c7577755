-- `fast::read_on_by` meets its contract: the loop's head is `Going`, a run keeps it, and each way out and each turn is a law of it. Assumes nothing.
use Rattle.state.specs.State.{state_of}
use Rattle.stepping.specs.Invariant.{measure}
use Rattle.reading.specs.GoingLaws.{Going}
use Rattle.fast.proofs.read_on_by.Given as goal

abbrev pub invariant-loop-token : goal.invariant-loop-token
invariant-loop-token l = Going l.layout l.source l.table l.edition (state_of l.initial.lexer l.initial.codes) l.initial.count l.initial.list (state_of l.lexer l.codes) l.count l.list

abbrev pub decreases-loop-token : goal.decreases-loop-token
decreases-loop-token l = measure l.source (state_of l.lexer l.codes)
