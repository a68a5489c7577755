-- `skip::skip` meets its contract. The loop's invariant is the contract itself, at the place that was come to; a block is passed as far as it was
-- counted. Assumes nothing.
use native.Mathlib.Omega.{arith}
use Prim.Native.Nat.{◌+◌, ◌≤◌}
use mathlib.Core.Path.{◌≡◌}
use lib.ListN.{length}
use Rattle.skip.specs.Skip.{stays_but, Passed}
use Rattle.skip.specs.SkipLaws.{passes_none, passes_on, passes_count, passes_all}
use Rattle.skip.proofs.skip.Goals as goal
use Rattle.skip.proofs.skip.Goals.{After-count-n}

-- the block is within the source
fits : (c : After-count-n) → c.loop-i.i + 64 ≤ length c.args.source.now
fits c = omega (arith, c.loop-i.invariant.within, c.loop-i-test.true)

-- as far as it was counted
passed : (c : After-count-n)
    → Passed (stays_but c.args.a c.args.b c.args.c) c.args.source.now c.args.at
    (c.loop-i.i + c.count-n.result)
passed c = passes_on c.loop-i.invariant (passes_count (fits c) c.count-n.ensures)

pub loop-i-init : goal.loop-i-init
loop-i-init c = passes_none c.requires

pub bounds-source-i : goal.bounds-source-i
bounds-source-i c = omega (arith, c.loop-i-test.true)

pub returns-then-not-stays : goal.returns-then-not-stays
returns-then-not-stays c = c.loop-i.invariant

pub count-n-requires : goal.count-n-requires
count-n-requires c = omega (arith, c.loop-i.invariant.within, c.loop-i-test.true)

pub overflow_add-result : goal.overflow_add-result
overflow_add-result c = omega (arith, (passed (goal.at.overflow_add-result c).After-count-n).within)

pub returns-then-n-lt64 : goal.returns-then-n-lt64
returns-then-n-lt64 c = passed (goal.at.returns-then-n-lt64 c).After-count-n

pub overflow_add-i : goal.overflow_add-i
overflow_add-i c = omega (arith, fits (goal.at.overflow_add-i c).After-count-n)

pub loop-i-smaller : goal.loop-i-smaller
loop-i-smaller c = omega (arith, fits (goal.at.loop-i-smaller c).After-count-n)

pub loop-i-preserved : goal.loop-i-preserved
loop-i-preserved c =
    let all : c.count-n.result ≡ 64 = omega (arith, c.count-n.ensures.less, c.if-n-lt64.false) in
    passes_all _ (passed (goal.at.loop-i-preserved c).After-count-n) all

pub end_singly-requires : goal.end_singly-requires
end_singly-requires c = c.loop-i.invariant.within

pub returns : goal.returns
returns c = passes_on c.loop-i.invariant c.end_singly.ensures.passed
