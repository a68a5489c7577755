-- `format_state::Parsing::align` meets its contract: the options are set, and it goes on. Assumes nothing.
use Rattle.format_state.proofs.Parsing.align.Goals as goal

pub returns : goal.returns
returns c = rw (c.go.ensures, c.with_alignment.ensures, c.char_to_alignment-alignment.ensures)
