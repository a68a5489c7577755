-- `keep::kept_rows` meets its contract: the loop's head is `Asked`, and each way out and each turn is a law of it. Assumes nothing.
use native.Mathlib.Omega.{arith}
use Rattle.keep.proofs.Asking.{begins, at_end, is_unchained, is_backward, goes_on, is_last, not_last}
use Rattle.keep.proofs.kept_rows.Goals as goal

pub loop-i-init : goal.loop-i-init
loop-i-init c = begins _ _ _ _ _ c.no_row-before.ensures

pub returns-then-not-is_chained : goal.returns-then-not-is_chained
returns-then-not-is_chained c =
    is_unchained _ _ _ _ _ _ c.loop-i.invariant c.loop-i-test.true _ c.read_row-row.ensures c.is_chained.ensures c.if-not-is_chained.true

pub returns-then-not-is_forward : goal.returns-then-not-is_forward
returns-then-not-is_forward c =
    is_backward _ _ _ _ _ _ c.loop-i.invariant c.loop-i-test.true _ c.read_row-row.ensures c.is_chained.ensures c.if-not-is_chained.false
    c.is_forward.ensures c.if-not-is_forward.true

pub returns-then-is_last : goal.returns-then-is_last
returns-then-is_last c =
    is_last _ _ _ _ _ _ c.loop-i.invariant c.loop-i-test.true _ c.read_row-row.ensures c.is_chained.ensures c.if-not-is_chained.false
    c.is_forward.ensures c.if-not-is_forward.false c.if-line-row.true c.first_at.ensures c.is_last.ensures c.if-is_last.true

pub returns-then-line-row : goal.returns-then-line-row
returns-then-line-row c =
    not_last _ _ _ _ _ _ c.loop-i.invariant c.loop-i-test.true _ c.read_row-row.ensures c.is_chained.ensures c.if-not-is_chained.false
    c.is_forward.ensures c.if-not-is_forward.false c.if-line-row.true c.first_at.ensures c.is_last.ensures c.if-is_last.false

pub loop-i-preserved : goal.loop-i-preserved
loop-i-preserved c =
    goes_on _ _ _ _ _ _ c.loop-i.invariant c.loop-i-test.true _ c.read_row-row.ensures c.is_chained.ensures c.if-not-is_chained.false
    c.is_forward.ensures c.if-not-is_forward.false (omega (arith, c.if-line-row.false))

pub returns : goal.returns
returns c = at_end _ _ _ _ _ _ c.loop-i.invariant c.loop-i-test.false
