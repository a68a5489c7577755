-- `replay_step::steps_agree` meets its contract: the state's invariant holds at the start and each step keeps it, and a case has at most
-- 4,097 steps. Assumes nothing.
use Rattle.stepping.specs.Invariant.{Ok}
use Rattle.replay_step.proofs.steps_agree.Given as goal

abbrev pub invariant-loop-k : goal.invariant-loop-k
invariant-loop-k l = Ok l.source l.state
