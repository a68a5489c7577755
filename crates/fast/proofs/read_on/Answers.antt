-- `fast::read_on` meets its contract: `read_on_by` with the signs that the crate `signs` makes. Assumes nothing.
use Rattle.fast.proofs.read_on.Goals as goal

pub read_on_by-requires : goal.read_on_by-requires
read_on_by-requires c =
    record { ok = c.requires.ok; rows = record { by_class = c.requires.class_table; by_sign = c.signs-signs.ensures } }

pub returns : goal.returns
returns c = c.read_on_by.ensures
