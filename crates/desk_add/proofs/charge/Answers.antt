-- `desk_add::charge` meets its contract. Assumes nothing.
use Rattle.desk_add.proofs.charge.Goals as goal

pub returns : goal.returns
returns c = rw c.one_more.ensures
