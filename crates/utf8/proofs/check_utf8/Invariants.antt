-- `utf8::check_utf8` meets its contract. The loop's invariant: what the definition answers from here on is what it answers from the start.
-- A turn is one step of it: `passed` over a character, `bad_at` and `cut_at` where there is none.
-- Assumes nothing.
use Prim.Native.Nat.{◌-◌}
use lib.ListN.{length}
use Rattle.utf8.proofs.Turns.{Going}
use Rattle.utf8.proofs.check_utf8.Given as goal

abbrev pub invariant-loop-i : goal.invariant-loop-i
invariant-loop-i l = Going l.s l.i

abbrev pub decreases-loop-i : goal.decreases-loop-i
decreases-loop-i l = length l.s - l.i
