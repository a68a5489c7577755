-- `lookahead::see_queued` meets its contract: where token n is queued, it is what is seen, and else nothing is. Assumes nothing.
use mathlib.Core.Path.{refl}
use Rattle.lookahead.specs.AnswerLaws.{show_is, queued_none}
use Rattle.lookahead.proofs.see_queued.Goals as goal

pub returns-then-n-cursor : goal.returns-then-n-cursor
returns-then-n-cursor c = show_is _ _ _ c.if-n-cursor.true c.see.ensures refl

pub returns : goal.returns
returns c = queued_none _ _ _ c.if-n-cursor.false
