-- `format_state::Parsing::represent` meets its contract: the options are set, and it goes on. Assumes nothing.
use Rattle.format_state.proofs.Parsing.represent.Goals as goal

pub returns : goal.returns
returns c = rw (c.go.ensures, c.with_representation.ensures)
