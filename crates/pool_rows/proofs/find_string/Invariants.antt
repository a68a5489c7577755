-- `pool_rows::find_string` meets its contract: `Searching` is what the loop keeps. Assumes nothing.
use Rattle.pool_rows.proofs.Loops.{Searching}
use Rattle.pool_rows.proofs.find_string.Given as goal

abbrev pub invariant-loop-i : goal.invariant-loop-i
invariant-loop-i g l = Searching l.string l.bytes (g.E.Entries.numbers l.entries) l.n l.i
