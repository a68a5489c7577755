-- `fills::put_fill` meets its contract: `Filled` is what the loop keeps. Assumes nothing.
use Rattle.fills.proofs.Filling.{Filled}
use Rattle.fills.proofs.put_fill.Given as goal

abbrev pub invariant-loop : goal.invariant-loop
invariant-loop l = Filled l.initial.buffer l.at l.fill l.times l.buffer l.end l.counter
