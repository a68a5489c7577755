-- `koto_peek::koto_peek` meets its contract: the inner call's answer is told. Assumes nothing.
use Rattle.koto_peek.proofs.koto_peek.Goals as goal

pub returns : goal.returns
returns c =
    rw (← c.peek_by-looked.ensures) (c.tell_looked.ensures c.args.taken)
