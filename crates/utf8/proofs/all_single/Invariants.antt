-- `utf8::all_single` meets its contract. The loop's invariant: what was found of the bytes before the index. Assumes nothing.
use mathlib.Core.Path.{◌≡◌}
use Rattle.base.specs.All.{all_good}
use Rattle.utf8.specs.Lengths.{is_single}
use Rattle.utf8.proofs.all_single.Given as goal

abbrev pub invariant-loop-b : goal.invariant-loop-b
invariant-loop-b l = l.ok ≡ all_good (is_single l.s) l.b-index
