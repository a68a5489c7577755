-- `symbols::check_dots` meets its contract: the first test that holds is answered. Assumes nothing.
use mathlib.Core.Path.{refl}
use Rattle.symbols.proofs.Chain.{here, past}
use Rattle.symbols.proofs.check_dots.Goals as goal

pub returns-then-starts_with : goal.returns-then-starts_with
returns-then-starts_with c = here _ _ _ c.starts_with.ensures c.if-starts_with.true refl

pub returns-then-starts_with-2 : goal.returns-then-starts_with-2
returns-then-starts_with-2 c =
    past _ _ _ c.starts_with.ensures c.if-starts_with.false (here _ _ _ c.starts_with-2.ensures c.if-starts_with-2.true refl)

pub returns : goal.returns
returns c =
    past _ _ _ c.starts_with.ensures c.if-starts_with.false
    (past _ _ _ c.starts_with-2.ensures c.if-starts_with-2.false c.check_two.ensures)
