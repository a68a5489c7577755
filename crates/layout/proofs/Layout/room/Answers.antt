-- `Layout::room` meets its contract: each layout's crate says what it says of it. Assumes nothing.
use Rattle.layout.proofs.Layout.room.Goals as goal

pub returns-in-Whole : goal.returns-in-Whole
returns-in-Whole c = rw c.in-Whole.is c.room.ensures

pub returns-in-Half : goal.returns-in-Half
returns-in-Half c = rw c.in-Half.is c.room-in-Half.ensures
