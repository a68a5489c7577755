-- `foreign::compare` meets its contract: `compare_by` with the rows that the crates `classes` and `signs` make. Assumes nothing.
use Rattle.foreign.proofs.compare.Goals as goal

pub compare_by-requires : goal.compare_by-requires
compare_by-requires c =
    record { source_len_bound = c.requires; class_table = (c.classes-classes.ensures, c.signs-signs.ensures) }

pub returns : goal.returns
returns c = c.compare_by.ensures
