-- `pool::is_new` meets its contract: an index is compared, and a refusal is not new. Assumes nothing.
use Rattle.pool.proofs.is_new.Goals as goal

pub returns-in-Ok : goal.returns-in-Ok
returns-in-Ok c = rw c.in-Ok.is
