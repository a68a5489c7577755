-- `profile::first_forbidden` meets its contract. The loop's invariant: what completes the pass from here completes it from the start. Assumes
-- nothing.
use native.Mathlib.Omega.{arith}
use mathlib.Core.Path.{sym, ◌∙◌}
use Rattle.profile.specs.LoopLaws.{start, onward, here, done}
use Rattle.profile.proofs.first_forbidden.Goals as goal

pub loop-i-init : goal.loop-i-init
loop-i-init c = start _ _

pub row_at-at-requires : goal.row_at-at-requires
row_at-at-requires c = omega (arith, c.loop-i-test.true, c.requires)

pub returns-then-forbidden_at : goal.returns-then-forbidden_at
returns-then-forbidden_at c =
    here _ _ _ _ c.loop-i.invariant c.loop-i-test.true c.row_at-at.ensures (sym c.forbidden_at.ensures ∙ c.if-forbidden_at.true)

pub loop-i-preserved : goal.loop-i-preserved
loop-i-preserved c =
    rw c.opener_at-opener.ensures
    (onward _ _ _ _ c.loop-i.invariant c.loop-i-test.true c.row_at-at.ensures
    (sym c.forbidden_at.ensures ∙ c.if-forbidden_at.false))

pub returns : goal.returns
returns c = done _ _ _ _ c.loop-i.invariant c.loop-i-test.false
