-- `Cursor::queued_past` meets its contract: its test is that of `queued_past`. Assumes nothing.
use mathlib.Core.Path.{sym, ◌∙◌}
use Rattle.cursor.specs.Cursor.{queued_past}
use Rattle.cursor.proofs.Cursor.queued_past.Goals as goal

pub returns-then-must_queue : goal.returns-then-must_queue
unfolding queued_past
returns-then-must_queue c = rw (sym c.must_queue.ensures ∙ c.if-must_queue.true) c.queued_one.ensures

pub returns : goal.returns
unfolding queued_past
returns c = rw (sym c.must_queue.ensures ∙ c.if-must_queue.false)
