-- `fast_turns::fast_run` meets its contract: the loop's head is what was run so far, and each step adds its turns. Assumes nothing.
use Rattle.state.specs.State.{state_of}
use Rattle.stepping.specs.Invariant.{measure}
use Rattle.turns.specs.Turns.{Ran}
use Rattle.fast_turns.proofs.fast_run.Given as goal

abbrev pub invariant-loop-layout : goal.invariant-loop-layout
invariant-loop-layout l = Ran l.layout l.source l.table l.edition (state_of l.initial.lexer l.initial.codes) l.initial.count l.initial.list (state_of l.lexer l.codes) l.count l.list

abbrev pub decreases-loop-layout : goal.decreases-loop-layout
decreases-loop-layout l = measure l.source (state_of l.lexer l.codes)
