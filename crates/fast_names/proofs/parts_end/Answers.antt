-- `fast_names::parts_end` meets its contract. The loop's invariant: all bytes so far are parts of a name; a block is passed as far as it was
-- counted. Assumes nothing.
use native.Mathlib.Omega.{arith}
use Prim.Native.Nat.{◌+◌, ◌≤◌}
use mathlib.Core.Path.{◌≡◌}
use lib.ListN.{length}
use Rattle.skip.specs.SkipLaws.{passes_none, passes_on, passes_count, passes_all}
use Rattle.fast_names.specs.NameRunLaws.{runs_on, runs_count}
use Rattle.fast_names.proofs.parts_end.Goals as goal
use Rattle.fast_names.proofs.parts_end.Goals.{After-count-n}

-- the block is within the source
fits : (c : After-count-n) → c.loop-i.i + 32 ≤ length c.args.source.now
fits c = omega (arith, c.loop-i.invariant.within, c.loop-i-test.true)

pub loop-i-init : goal.loop-i-init
loop-i-init c = passes_none c.requires

pub count-n-requires : goal.count-n-requires
count-n-requires c = omega (arith, c.loop-i.invariant.within, c.loop-i-test.true)

pub overflow_add-result : goal.overflow_add-result
overflow_add-result c = omega (arith, fits (goal.at.overflow_add-result c).After-count-n, c.if-n-lt32.true, c.well_formed)

pub returns-then-n-lt32 : goal.returns-then-n-lt32
returns-then-n-lt32 c = runs_on c.loop-i.invariant (runs_count (fits (goal.at.returns-then-n-lt32 c).After-count-n) c.count-n.ensures c.if-n-lt32.true)

pub overflow_add-i : goal.overflow_add-i
overflow_add-i c = omega (arith, fits (goal.at.overflow_add-i c).After-count-n, c.well_formed)

pub loop-i-smaller : goal.loop-i-smaller
loop-i-smaller c = omega (arith, fits (goal.at.loop-i-smaller c).After-count-n)

pub loop-i-preserved : goal.loop-i-preserved
loop-i-preserved c =
    let counted = c.count-n.ensures in
    let all : c.count-n.result ≡ 32 = omega (arith, counted.less, c.if-n-lt32.false) in
    passes_all _ (passes_on c.loop-i.invariant (passes_count (fits (goal.at.loop-i-preserved c).After-count-n) counted)) all

pub end_singly-requires : goal.end_singly-requires
end_singly-requires c = c.loop-i.invariant.within

pub returns : goal.returns
returns c =
    runs_on c.loop-i.invariant (record { passed = c.end_singly.ensures.passed; over = c.end_singly.ensures.over })
