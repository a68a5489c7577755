-- `walking::print_calls` ends: each call leaves less of the line. Nothing has to hold from call to call, and no call asks anything.
-- Assumes nothing.
use Rattle.std.proofs.Common.{length, ◌-◌}
use Rattle.walking.proofs.print_calls.Given as goal

abbrev pub decreases-loop-at : goal.decreases-loop-at
decreases-loop-at g l = length l.line - l.at
