-- `Cursor::must_queue` meets its contract: its two tests are those of `must_queue`, the second by the status. Assumes nothing.
use mathlib.Core.Path.{sym}
use Rattle.base.specs.CasesLaws.{cases}
use Rattle.cursor.specs.Cursor.{must_queue}
use Rattle.cursor.specs.CursorLaws.{more_end, more_stuck, must_more}
use Rattle.cursor.proofs.Cursor.must_queue.Goals as goal

pub returns-then-self-n : goal.returns-then-self-n
unfolding must_queue
returns-then-self-n c = sym (search cases)

pub returns-in-End : goal.returns-in-End
returns-in-End c =
    must_more _ _ c.if-self-n.false (rw c.saturating_sub.ensures (more_end _ c.in-End.is))

pub returns-in-Stuck : goal.returns-in-Stuck
returns-in-Stuck c =
    must_more _ _ c.if-self-n.false (more_stuck _ c.in-Stuck.is)
