-- `skip::end_singly` meets its contract. The loop's invariant: all bytes so far stay. Assumes nothing.
use Rattle.skip.specs.Skip.{Passed}
use Rattle.skip.proofs.end_singly.Given as goal

abbrev pub invariant-loop-i : goal.invariant-loop-i
invariant-loop-i g l = Passed (g.T.Stays.test l.what) l.source l.at l.i
