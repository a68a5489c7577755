-- `held::is_span` meets its contract: it compares in the order of `is_span`. Assumes nothing.
use mathlib.Core.Path.{sym}
use Rattle.base.specs.CasesLaws.{cases}
use Rattle.held.specs.Held.{is_span}
use Rattle.held.proofs.is_span.Goals as goal

pub returns-then-row-there-3 : goal.returns-then-row-there-3
unfolding is_span
returns-then-row-there-3 c = sym (search cases depth 12)

pub returns-else-row-there-3 : goal.returns-else-row-there-3
unfolding is_span
returns-else-row-there-3 c = sym (search cases depth 12)

pub returns-else-row-there-2 : goal.returns-else-row-there-2
unfolding is_span
returns-else-row-there-2 c = sym (search cases depth 12)

pub returns-else-row-there : goal.returns-else-row-there
unfolding is_span
returns-else-row-there c = sym (search cases depth 12)
