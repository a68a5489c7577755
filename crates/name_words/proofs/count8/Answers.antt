-- `name_words::count8` meets its contract: so many zeros at the end of the bits, so many parts at the start of the bytes. Assumes nothing.
use native.Mathlib.Omega.{arith}
use mathlib.Core.Path.{refl}
use lib.Count.{trailing_le}
use Rattle.name_words.specs.OutsLaws.{counts_parts}
use Rattle.name_words.proofs.count8.Goals as goal

pub overflow_cast-result : goal.overflow_cast-result
overflow_cast-result c = omega (arith, trailing_le 64 c.outs.result)

pub returns : goal.returns
returns c =
    counts_parts c.args.source.now c.args.at (λ j. omega (arith, c.shared_slice_known-1.given j)) c.requires c.word8.ensures
    c.outs.ensures refl
