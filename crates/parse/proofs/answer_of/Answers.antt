-- `parse::answer_of` meets its contract: its tests are those of `answer_of`. Assumes nothing.
use Rattle.parse.proofs.answer_of.Goals as goal

pub returns-in-Ok : goal.returns-in-Ok
returns-in-Ok c = rw (c.if-full.false, c.in-Ok.is)

pub returns-in-Err : goal.returns-in-Err
returns-in-Err c = rw (c.if-full.false, c.in-Err.is, c.error_of.ensures)
