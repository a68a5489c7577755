-- `marks::mark` meets its contract: what the marks from i on do to the row is what all of them do to the row as it was. Assumes nothing.
use mathlib.Core.Path.{◌≡◌}
use lib.ListN.{length, drop}
use Rattle.marks.specs.Marks.{marked}
use Rattle.marks.proofs.mark.Given as goal

abbrev pub invariant-loop-m : goal.invariant-loop-m
invariant-loop-m l = (length l.moved ≡ length l.initial.moved) × (marked l.moved (drop l.m-index l.marks) ≡ marked l.initial.moved l.marks)
