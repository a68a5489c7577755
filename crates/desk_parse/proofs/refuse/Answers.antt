-- `desk_parse::refuse` meets its contract, by what `parse::read` answers. Assumes nothing.
use mathlib.Core.Path.{sym, ◌∙◌}
use Rattle.desk_parse.proofs.refuse.Goals as goal

pub returns-in-Err : goal.returns-in-Err
returns-in-Err c = rw (sym c.read.ensures ∙ c.in-Err.is)

pub returns-in-Ok : goal.returns-in-Ok
returns-in-Ok c = rw (sym c.read.ensures ∙ c.in-Ok.is)
