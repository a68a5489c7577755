-- `Cursor::is_full` meets its contract: its two tests are those of `is_full`. Assumes nothing.
use mathlib.Core.Path.{sym, ◌∙◌}
use Rattle.cursor.specs.Cursor.{is_full}
use Rattle.cursor.proofs.Cursor.is_full.Goals as goal

pub returns-then-must_queue : goal.returns-then-must_queue
unfolding is_full
returns-then-must_queue c = rw (sym c.must_queue.ensures ∙ c.if-must_queue.true)

pub returns : goal.returns
unfolding is_full
returns c = rw (sym c.must_queue.ensures ∙ c.if-must_queue.false)
