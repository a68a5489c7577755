-- `name_runs::is_part` meets its contract: the same tests in the same order. Assumes nothing.
use Rattle.name_runs.proofs.is_part.Goals as goal

pub returns : goal.returns
returns c = rw (c.between.ensures, c.between-2.ensures, c.between-3.ensures)
