-- `foreign::compare_by` meets its contract: the loop's head is `Comparing`, and each way out and each turn is a law of it. Assumes nothing.
use Rattle.state.specs.State.{state_of}
use Rattle.stepping.specs.Invariant.{measure}
use Rattle.foreign.specs.CheckLaws.{Comparing}
use Rattle.foreign.proofs.compare_by.Given as goal

abbrev pub invariant-loop-token : goal.invariant-loop-token
invariant-loop-token l = Comparing l.source l.table l.edition l.list l.count l.status (state_of l.lexer l.codes) l.read l.apart

abbrev pub decreases-loop-token : goal.decreases-loop-token
decreases-loop-token l = measure l.source (state_of l.lexer l.codes)
