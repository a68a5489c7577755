-- `pool_lent::is_fine` meets its contract: its arms are those of `fine_by`. Assumes nothing.
use mathlib.Core.Path.{sym, ◌∙◌}
use Rattle.pool_lent.proofs.is_fine.Goals as goal

pub returns-in-Err : goal.returns-in-Err
returns-in-Err c = rw (sym c.check_utf8.ensures ∙ c.in-Err.is)

pub returns-in-Ok : goal.returns-in-Ok
returns-in-Ok c = rw (sym c.check_utf8.ensures ∙ c.in-Ok.is)
