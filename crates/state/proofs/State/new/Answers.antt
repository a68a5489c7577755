-- `state::State::new` meets its contract: the lexer is the one that `Lexer::new` ensures. Assumes nothing.
use Rattle.state.proofs.State.new.Goals as goal

pub returns : goal.returns
returns c = rw c.new.ensures
