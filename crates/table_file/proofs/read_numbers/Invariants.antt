-- `table_file::read_numbers` meets its contract. The loop's invariant: the first i numbers stand in the row, and the rest is as it was.
-- Assumes nothing.
use Rattle.table_file.proofs.FileLaws.{Filled}
use Rattle.table_file.proofs.read_numbers.Given as goal

abbrev pub invariant-loop-i : goal.invariant-loop-i
invariant-loop-i l = Filled l.file l.count l.initial.row l.row l.i
