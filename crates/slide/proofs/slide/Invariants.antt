-- `slide::slide` meets its contract. Assumes nothing.
use Rattle.slide.specs.Slide.{Compacted, stays}
use Rattle.slide.proofs.slide.Given as goal

abbrev pub invariant-loop-i : goal.invariant-loop-i
invariant-loop-i l = Compacted (stays l.initial.moved) l.i l.initial.bytes l.initial.entries l.initial.owners l.initial.moved l.bytes l.entries l.owners l.moved l.laid
