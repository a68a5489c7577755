-- `Layout::put` meets its contract: each layout's crate says what it says of it. Assumes nothing.
use Rattle.layout.proofs.Layout.put.Goals as goal

pub put_row-requires : goal.put_row-requires
put_row-requires c = rw c.in-Whole.is at c.requires

pub put_half-requires : goal.put_half-requires
put_half-requires c = rw c.in-Half.is at c.requires

pub returns-in-Whole : goal.returns-in-Whole
returns-in-Whole c =
    rw c.in-Whole.is c.put_row.ensures

pub returns-in-Half : goal.returns-in-Half
returns-in-Half c =
    rw c.in-Half.is c.put_half.ensures
