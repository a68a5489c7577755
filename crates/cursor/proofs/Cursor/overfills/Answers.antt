-- `Cursor::overfills` meets its contract: a look at less than so many never does, and else it is by what is left. Assumes nothing.
use mathlib.Core.Path.{sym}
use Rattle.cursor.specs.CursorLaws.{over_none, over_end, over_stuck}
use Rattle.cursor.proofs.Cursor.overfills.Goals as goal

pub returns-then-n-lt-QUEUE_MOST : goal.returns-then-n-lt-QUEUE_MOST
returns-then-n-lt-QUEUE_MOST c = sym (over_none _ _ c.requires.1 c.if-n-lt-QUEUE_MOST.true)

pub returns-in-End : goal.returns-in-End
returns-in-End c =
    sym (over_end _ _ c.requires.1 c.if-n-lt-QUEUE_MOST.false c.in-End.is)

pub returns-in-Stuck : goal.returns-in-Stuck
returns-in-Stuck c =
    sym (over_stuck _ _ c.requires.1 c.if-n-lt-QUEUE_MOST.false c.in-Stuck.is)
