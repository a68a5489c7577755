-- `names::raw_string_start` meets its contract: it fills in the definition's fields.
-- Assumes nothing.
use Rattle.names.proofs.raw_string_start.Goals as goal

pub returns : goal.returns
returns c = rw (c.advance_line.ensures, c.hash_count_of.ensures)
