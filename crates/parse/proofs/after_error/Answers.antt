-- `parse::after_error` meets its contract: its arms are those of `adding_after`. Assumes nothing.
use Rattle.parse.proofs.after_error.Goals as goal

pub returns-in-PoolFull : goal.returns-in-PoolFull
returns-in-PoolFull c = rw c.in-PoolFull.is
