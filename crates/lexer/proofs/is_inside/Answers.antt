-- `lexer::is_inside` meets its contract: the test of the byte there is `is_tail`. Assumes nothing.
use Rattle.lexer.proofs.is_inside.Goals as goal

pub returns : goal.returns
returns c = c.between.ensures
