-- `slide::keep_one` meets its contract. Assumes nothing.
use native.Mathlib.Omega.{arith}
use Prim.Native.Nat.{◌*◌}
use lib.ListN.{length-set}
use Rattle.slide.proofs.Sliding.{turn_gone, turn_kept}
use Rattle.slide.proofs.keep_one.Goals as goal

pub returns-then-moved-i : goal.returns-then-moved-i
returns-then-moved-i c = turn_gone _ _ _ _ _ _ c.if-moved-i.true

pub bounds-entries-at-2 : goal.bounds-entries-at-2
bounds-entries-at-2 c =
    omega (arith, c.requires.entry_in, c.requires.few, length-set c.args.entries.now (2 * c.args.laid.entries) c.args.laid.bytes)

pub returns : goal.returns
returns c =
    turn_kept _ _ _ _ _ _ _ c.if-moved-i.false c.move_down.ensures
