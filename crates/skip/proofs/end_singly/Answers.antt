-- `skip::end_singly` meets its contract. The loop's invariant: all bytes so far stay. Assumes nothing.
use native.Mathlib.Omega.{arith}
use Rattle.std.proofs.Common.{◌≡◌, length, sym, ◌∙◌}
use Rattle.skip.specs.SkipLaws.{passes_none, passes_one}
use Rattle.skip.proofs.end_singly.Goals as goal

pub loop-i-init : goal.loop-i-init
loop-i-init g c = passes_none c.requires

pub returns-then-not-stays : goal.returns-then-not-stays
returns-then-not-stays g c =
    record { passed = c.loop-i.invariant; over = λ _. sym c.stays.ensures ∙ c.if-not-stays.true }

pub loop-i-preserved : goal.loop-i-preserved
loop-i-preserved g c =
    passes_one c.loop-i.invariant c.loop-i-test.true (sym c.stays.ensures ∙ c.if-not-stays.false)

pub returns : goal.returns
returns g c =
    let e : c.loop-i.i ≡ length c.args.source.now = omega (arith, c.loop-i.auto.i-end c.requires) in
    record { passed = rw e at c.loop-i.invariant; over = λ h. absurd (omega arith) }
