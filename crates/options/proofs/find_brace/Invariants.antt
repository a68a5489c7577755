-- `options::find_brace` meets its contract. The loop's invariant is `Searching`: what is found from here is what was to be found from the
-- start. Assumes nothing.
use Rattle.options.proofs.Search.{Searching}
use Rattle.options.proofs.find_brace.Given as goal

abbrev pub invariant-loop-i : goal.invariant-loop-i
invariant-loop-i l = Searching l.source l.at l.i
