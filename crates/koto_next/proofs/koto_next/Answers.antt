-- `koto_next::koto_next` meets its contract: the answer of the list's layout is told. Assumes nothing.
use Rattle.koto_next.proofs.koto_next.Goals as goal

pub returns-then-status-lt-END_HALF : goal.returns-then-status-lt-END_HALF
returns-then-status-lt-END_HALF c = c.next_whole.ensures

pub returns : goal.returns
returns c = rw (← c.next_by-given.ensures) c.tell_given.ensures
