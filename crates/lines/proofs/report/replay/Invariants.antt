-- `lines::replay` ends: each line leaves less of the text. What it is given to ask of a case may be called again after each call.
-- Assumes nothing.
use Rattle.std.proofs.Common.{vec_len, ◌-◌}
use denote.Param.Always.{always_mut}
use Rattle.lines.proofs.report.replay.Given as goal

abbrev pub invariant-loop-at : goal.invariant-loop-at
invariant-loop-at g l = always_mut g.F.FnMut l.initial.agrees → always_mut g.F.FnMut l.agrees

abbrev pub decreases-loop-at : goal.decreases-loop-at
decreases-loop-at g l = vec_len l.text - l.at
