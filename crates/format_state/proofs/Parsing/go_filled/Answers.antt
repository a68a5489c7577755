-- `format_state::Parsing::go_filled` meets its contract: the fill is what stands from here to `end`. Assumes nothing.
use Rattle.format_state.proofs.Parsing.go_filled.Goals as goal

pub returns : goal.returns
returns c = rw (c.keep.ensures, c.with_fill.ensures)
