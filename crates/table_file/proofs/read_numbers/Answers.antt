-- `table_file::read_numbers` meets its contract. The loop's invariant: the first i numbers stand in the row, and the rest is as it was.
-- Assumes nothing.
use Rattle.table_file.proofs.FileLaws.{nothing_filled, one_more_lem, all_filled}
use Rattle.table_file.proofs.read_numbers.Goals as goal

pub loop-i-init : goal.loop-i-init
loop-i-init c = nothing_filled _ _ _

pub loop-i-preserved : goal.loop-i-preserved
loop-i-preserved c =
    one_more_lem _ _ _ _ _ _ c.loop-i.invariant c.loop-i-test.true c.requires.1 c.number_32.ensures

pub shape_of-row : goal.shape_of-row
shape_of-row c = c.loop-i.invariant.long

pub returns : goal.returns
returns c = all_filled _ _ _ _ _ c.loop-i.invariant c.loop-i-test.false
