-- `parse::plan_of` meets its contract: its arms are those of `plan_of`. Assumes nothing.
use Rattle.parse.proofs.plan_of.Goals as goal

pub returns-in-Err : goal.returns-in-Err
returns-in-Err c = rw c.in-Err.is c.plan_with-in-Err.ensures

pub returns-in-Ok : goal.returns-in-Ok
returns-in-Ok c = rw c.in-Ok.is c.plan_with.ensures
