-- `format_state::Parsing::fill_sign` meets its contract: the options are set, and it goes on behind the sign. Assumes nothing.
use Rattle.format_state.proofs.Parsing.fill_sign.Goals as goal

pub returns : goal.returns
returns c = rw (c.go_filled.ensures, c.with_alignment.ensures, c.char_to_alignment-alignment.ensures)
