-- `fast_turns::code_run` meets its contract: the loop's head is what was run so far, and each turn is one more. Assumes nothing.
use Rattle.state.specs.State.{state_of}
use Rattle.stepping.specs.Invariant.{measure}
use Rattle.fast_turns.specs.Steps.{CodeRan}
use Rattle.fast_turns.proofs.code_run.Given as goal

abbrev pub invariant-loop-layout : goal.invariant-loop-layout
invariant-loop-layout l = CodeRan l.layout l.source l.table l.edition l.initial.lexer l.codes l.initial.count l.initial.list (record { lexer = l.lexer; count = l.count }) l.list

abbrev pub decreases-loop-layout : goal.decreases-loop-layout
decreases-loop-layout l = measure l.source (state_of l.lexer l.codes)
