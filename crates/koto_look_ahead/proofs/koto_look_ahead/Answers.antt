-- `koto_look_ahead::koto_look_ahead` meets its contract: the inner call's answer is told. Assumes nothing.
use Rattle.koto_look_ahead.proofs.koto_look_ahead.Goals as goal

pub returns : goal.returns
returns c =
    rw (← c.look_by-looked.ensures) (c.tell_looked.ensures c.args.taken)
