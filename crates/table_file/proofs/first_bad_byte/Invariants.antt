-- `table_file::first_bad_byte` meets its contract. The loop's invariant: the first bad byte from i on is the first bad byte.
-- Assumes nothing.
use Rattle.table_file.specs.File.{mark_ok}
use Rattle.fitness.specs.FirstLaws.{Going}
use Rattle.table_file.proofs.first_bad_byte.Given as goal

abbrev pub invariant-loop-i : goal.invariant-loop-i
invariant-loop-i l = Going (mark_ok l.file) 6 l.i
