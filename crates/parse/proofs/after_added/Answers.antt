-- `parse::after_added` meets its contract: its arms are those of `adding_after`. Assumes nothing.
use mathlib.Core.Path.{sym, ap, ◌∙◌}
use Rattle.parse.specs.Call.{adding_after}
use Rattle.parse.proofs.after_added.Goals as goal

pub returns-in-Ok : goal.returns-in-Ok
returns-in-Ok c = rw c.in-Ok.is

pub returns-in-Err : goal.returns-in-Err
returns-in-Err c = c.after_error.ensures ∙ sym (ap (adding_after c.args.adding) c.in-Err.is)
