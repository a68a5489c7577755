-- `keep::kept_rows` meets its contract: the loop's head is `Asked`, and each way out and each turn is a law of it. Assumes nothing.
use Rattle.keep.proofs.Asking.{Asked}
use Rattle.keep.proofs.kept_rows.Given as goal

abbrev pub invariant-loop-i : goal.invariant-loop-i
invariant-loop-i l = Asked l.source l.line l.list l.count l.before l.i
