-- `desk_add::charge_to` meets its contract. Assumes nothing.
use Rattle.desk_add.proofs.charge_to.Goals as goal

pub charge-requires : goal.charge-requires
charge-requires c =
    rw c.in-First.is at c.requires

pub charge-requires-in-Second : goal.charge-requires-in-Second
charge-requires-in-Second c =
    rw c.in-Second.is at c.requires

pub returns-in-First : goal.returns-in-First
returns-in-First c = rw (c.in-First.is, c.charge.ensures)

pub returns-in-Second : goal.returns-in-Second
returns-in-Second c = rw (c.in-Second.is, c.charge-in-Second.ensures)
