-- `text::run_end` meets its contract. The loop's invariant is `Counting`: the run from here on ends where the run from the start does.
-- Assumes nothing.
use Rattle.text.proofs.Runs.{Counting}
use Rattle.text.proofs.run_end.Given as goal

abbrev pub invariant-loop-i : goal.invariant-loop-i
invariant-loop-i g l = Counting g.T.ByteTest.test g.met.T.ByteTest.ascii l.source l.at l.i
