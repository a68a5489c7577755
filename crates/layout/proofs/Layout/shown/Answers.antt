-- `Layout::shown` meets its contract: each layout's crate says what it says of it. Assumes nothing.
use Rattle.layout.proofs.Layout.shown.Goals as goal

pub row_at-requires : goal.row_at-requires
row_at-requires c = rw c.in-Whole.is at c.requires

pub half_at-requires : goal.half_at-requires
half_at-requires c = rw c.in-Half.is at c.requires

pub returns-in-Whole : goal.returns-in-Whole
returns-in-Whole c = rw c.in-Whole.is c.row_at.ensures

pub returns-in-Half : goal.returns-in-Half
returns-in-Half c = rw c.in-Half.is c.half_at.ensures
