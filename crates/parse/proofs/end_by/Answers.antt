-- `parse::end_by` meets its contract: its arms are those of `end_by`. Assumes nothing.
use Rattle.parse.proofs.end_by.Goals as goal

pub returns-in-Err : goal.returns-in-Err
returns-in-Err c = rw c.in-Err.is

pub returns-in-Ok : goal.returns-in-Ok
returns-in-Ok c = rw (c.in-Ok.is, c.answer_of.ensures)
