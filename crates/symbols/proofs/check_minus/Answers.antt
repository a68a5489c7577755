-- `symbols::check_minus` meets its contract: the first test that holds is answered. Assumes nothing.
use mathlib.Core.Path.{refl}
use Rattle.symbols.proofs.Chain.{here, past}
use Rattle.symbols.proofs.check_minus.Goals as goal

pub returns-then-starts_with : goal.returns-then-starts_with
returns-then-starts_with c = here _ _ _ c.starts_with.ensures c.if-starts_with.true refl

pub returns : goal.returns
returns c =
    past _ _ _ c.starts_with.ensures c.if-starts_with.false c.check_two.ensures
