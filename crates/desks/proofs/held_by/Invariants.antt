-- `desks::held_by` meets its contract. Assumes nothing.
use mathlib.Core.Path.{◌≡◌}
use Rattle.desks.specs.Desks.{held_by}
use Rattle.desks.proofs.held_by.Given as goal

abbrev pub invariant-loop-i : goal.invariant-loop-i
invariant-loop-i l = l.held ≡ held_by l.entries l.owners l.owner l.i
