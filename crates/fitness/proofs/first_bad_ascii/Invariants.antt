-- `fitness::first_bad_ascii` meets its contract. Where the table begins as the small table none is bad. The loop's invariant: the first
-- bad code point from c on is the first bad code point. The small table rises too, since it is fit.
-- Assumes nothing.
use Rattle.fitness.specs.Fit.{ascii_ok}
use Rattle.fitness.specs.FirstLaws.{Going}
use Rattle.fitness.proofs.first_bad_ascii.Given as goal

abbrev pub invariant-loop-c : goal.invariant-loop-c
invariant-loop-c l = Going (ascii_ok l.table) 128 l.c
