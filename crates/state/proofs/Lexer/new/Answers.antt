-- `state::Lexer::new` meets its contract: the place is the one that `Place::new` ensures. Assumes nothing.
use Rattle.state.proofs.Lexer.new.Goals as goal

pub returns : goal.returns
returns c = rw c.new.ensures
