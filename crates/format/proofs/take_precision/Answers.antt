-- `format::take_precision` meets its contract: the precision is what `consume_u32` answers. Assumes nothing.
use native.Mathlib.Omega.{arith}
use Rattle.format_number.specs.NumberLaws.{digits_most}
use Rattle.format.proofs.take_precision.Goals as goal

pub take_number-requires : goal.take_number-requires
take_number-requires c =
    (omega (arith, digits_most _ c.args.at _ _ c.consume_u32-consumed.ensures, c.requires), c.requires.1)

pub returns : goal.returns
returns c = rw (c.take_number.ensures, c.consume_u32-consumed.ensures)
