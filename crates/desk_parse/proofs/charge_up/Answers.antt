-- `desk_parse::charge_up` meets its contract: the desk that is told is charged. Assumes nothing.
use Rattle.desk_parse.proofs.charge_up.Goals as goal

pub charge_desk-requires : goal.charge_desk-requires
charge_desk-requires c =
    record { entries_le_entries = c.requires.entries_le_entries; entries_le_entries_2 = rw c.in-First.is at c.requires.desks_bound }

pub charge_desk-requires-in-Second : goal.charge_desk-requires-in-Second
charge_desk-requires-in-Second c =
    record { entries_le_entries = c.requires.entries_le_entries; entries_le_entries_2 = rw c.in-Second.is at c.requires.desks_bound }

pub returns-in-First : goal.returns-in-First
returns-in-First c = rw (c.in-First.is, c.charge_desk.ensures)

pub returns-in-Second : goal.returns-in-Second
returns-in-Second c = rw (c.in-Second.is, c.charge_desk-in-Second.ensures)
