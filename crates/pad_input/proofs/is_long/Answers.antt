-- `pad_input::is_long` meets its contract: each return is a case of its definition. Assumes nothing.
use Rattle.pad_input.specs.Check.{long_fill}
use Rattle.pad_input.proofs.is_long.Goals as goal

pub returns-in-Some : goal.returns-in-Some
unfolding long_fill
returns-in-Some c = rw c.in-Some.is

pub returns-in-None : goal.returns-in-None
unfolding long_fill
returns-in-None c = rw c.in-None.is
