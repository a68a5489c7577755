-- `symbols::check_symbol` meets its contract: its one test is asked. Assumes nothing.
use borrow.Author.Rules.{rules}
use Rattle.symbols.proofs.Chain.{here, past, nothing}
use Rattle.symbols.proofs.check_symbol.Goals as goal

pub returns-then-starts_with : goal.returns-then-starts_with
returns-then-starts_with c = here _ _ _ c.starts_with.ensures c.if-starts_with.true (search rules)

pub returns : goal.returns
returns c = past _ _ _ c.starts_with.ensures c.if-starts_with.false (nothing _)
