-- `fast_keywords::word8` meets its contract: eight bytes, each with its weight. Assumes nothing.
use native.Mathlib.Omega.{arith}
use Prim.Native.Nat.{◌+◌}
use Rattle.fast_keywords.specs.Slots.{number}
use Rattle.fast_keywords.specs.SlotsLaws.{number_next}
use Rattle.fast_keywords.proofs.word8.Goals as goal

pub returns : goal.returns
unfolding number
returns c =
    let at = c.args.at in
    let s = c.args.source.now in
    omega (arith, c.from_le_bytes.ensures, number_next s 7 at (at + 1) (omega arith) (omega arith), number_next s 6 (at + 1) (at + 2) (omega arith) (omega arith), number_next s 5 (at + 2) (at + 3) (omega arith) (omega arith), number_next s 4 (at + 3) (at + 4) (omega arith) (omega arith), number_next s 3 (at + 4) (at + 5) (omega arith) (omega arith), number_next s 2 (at + 5) (at + 6) (omega arith) (omega arith), number_next s 1 (at + 6) (at + 7) (omega arith) (omega arith), number_next s 0 (at + 7) (at + 8) (omega arith) (omega arith))
