-- `format_state::Parsing::new` meets its contract: its options are the default. Assumes nothing.
use Rattle.format_state.proofs.Parsing.new.Goals as goal

pub returns : goal.returns
returns c = rw c.new.ensures
