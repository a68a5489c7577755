-- `half_rows::read_half` meets its contract: its numbers are those of `row_at`. Assumes nothing.
use Rattle.half_rows.specs.Half.{row_at}
use Rattle.half_rows.proofs.read_half.Goals as goal

pub returns : goal.returns
unfolding row_at
returns c = rw c.start_at-start.ensures
