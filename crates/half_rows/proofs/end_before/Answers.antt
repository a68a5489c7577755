-- `half_rows::end_before` meets its contract: record 0 has none before it. Assumes nothing.
use Rattle.half_rows.specs.HalfLaws.{before_some}
use Rattle.half_rows.proofs.end_before.Goals as goal

pub returns-then-i-eq0 : goal.returns-then-i-eq0
returns-then-i-eq0 c = rw c.if-i-eq0.true

pub returns : goal.returns
returns c = before_some _ _ c.if-i-eq0.false
