-- `plain_names::name_end` meets its contract. The loop's invariant: all bytes so far are parts of a name; eight are passed as far as they were
-- counted. Assumes nothing.
use native.Mathlib.Omega.{arith}
use Prim.Native.Nat.{◌+◌, ◌≤◌}
use mathlib.Core.Path.{◌≡◌}
use lib.ListN.{length}
use Rattle.skip.specs.SkipLaws.{passes_none, passes_on, passes_count, passes_all}
use Rattle.fast_names.specs.NameRunLaws.{runs_on, runs_count}
use Rattle.plain_names.proofs.name_end.Goals as goal
use Rattle.plain_names.proofs.name_end.Goals.{After-count8-n}

-- they are within the source
fits : (c : After-count8-n) → c.loop-i.i + 8 ≤ length c.args.source.now
fits c = omega (arith, c.loop-i.invariant.within, c.loop-i-test.true)

pub loop-i-init : goal.loop-i-init
loop-i-init c = passes_none c.requires

pub count8-n-requires : goal.count8-n-requires
count8-n-requires c = omega (arith, c.loop-i.invariant.within, c.loop-i-test.true)

pub overflow_add-result : goal.overflow_add-result
overflow_add-result c = omega (arith, fits (goal.at.overflow_add-result c).After-count8-n, c.if-n-lt8.true, c.well_formed)

pub returns-then-n-lt8 : goal.returns-then-n-lt8
returns-then-n-lt8 c = runs_on c.loop-i.invariant (runs_count (fits (goal.at.returns-then-n-lt8 c).After-count8-n) c.count8-n.ensures c.if-n-lt8.true)

pub overflow_add-i : goal.overflow_add-i
overflow_add-i c = omega (arith, fits (goal.at.overflow_add-i c).After-count8-n, c.well_formed)

pub loop-i-smaller : goal.loop-i-smaller
loop-i-smaller c = omega (arith, fits (goal.at.loop-i-smaller c).After-count8-n)

pub loop-i-preserved : goal.loop-i-preserved
loop-i-preserved c =
    let counted = c.count8-n.ensures in
    let all : c.count8-n.result ≡ 8 = omega (arith, counted.less, c.if-n-lt8.false) in
    passes_all _ (passes_on c.loop-i.invariant (passes_count (fits (goal.at.loop-i-preserved c).After-count8-n) counted)) all

pub parts_end-requires : goal.parts_end-requires
parts_end-requires c = c.loop-i.invariant.within

pub returns : goal.returns
returns c = runs_on c.loop-i.invariant c.parts_end.ensures
