-- `lines::number` meets its contract: a number takes a further digit only where it has at most 18. Assumes nothing.
use Rattle.std.proofs.Common.{◌<◌}
use Rattle.lines.proofs.fields.number.Given as goal

abbrev pub invariant-loop-b : goal.invariant-loop-b
invariant-loop-b l = l.value < 10000000000000000000
