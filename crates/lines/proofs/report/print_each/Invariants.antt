-- `lines::print_each` ends: each line leaves less of the text. What it is given to print a case with may be called again after each call.
-- Assumes nothing.
use Rattle.std.proofs.Common.{vec_len, ◌-◌}
use denote.Param.Always.{always_mut}
use Rattle.lines.proofs.report.print_each.Given as goal

abbrev pub invariant-loop-at : goal.invariant-loop-at
invariant-loop-at g l = always_mut g.F.FnMut l.initial.print → always_mut g.F.FnMut l.print

abbrev pub decreases-loop-at : goal.decreases-loop-at
decreases-loop-at g l = vec_len l.text - l.at
