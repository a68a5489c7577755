-- `fills::fills_of` meets its contract: a width that is one has 32 bits. Assumes nothing.
use native.Mathlib.Omega.{arith}
use borrow.Author.Tests.{ne_eqb}
use Rattle.fills.specs.Pad.{no_width}
use Rattle.fills.specs.PadLaws.{width_within}
use Rattle.fills.proofs.fills_of.Goals as goal

pub returns : goal.returns
returns c =
    let n = c.if-width-eq-NONE.false in
    (rw (ne_eqb c.args.width no_width n) (omega arith), omega (arith, width_within c.args.width c.requires n))
