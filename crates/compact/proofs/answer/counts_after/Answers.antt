-- `answer::counts_after` meets its contract. Assumes nothing.
use Rattle.compact.proofs.answer.counts_after.Goals as goal

pub returns-in-Ok : goal.returns-in-Ok
returns-in-Ok c = rw c.in-Ok.is
