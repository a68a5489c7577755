-- `symbols::check_not_equal` meets its contract: its one test is asked. Assumes nothing.
use mathlib.Core.Path.{refl}
use Rattle.symbols.proofs.Chain.{here, past, nothing}
use Rattle.symbols.proofs.check_not_equal.Goals as goal

pub returns-then-starts_with : goal.returns-then-starts_with
returns-then-starts_with c = here _ _ _ c.starts_with.ensures c.if-starts_with.true refl

pub returns : goal.returns
returns c = past _ _ _ c.starts_with.ensures c.if-starts_with.false (nothing _)
