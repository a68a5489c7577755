-- `skip::skip_near` meets its contract: the first block is passed as far as it was counted, and a whole one with what `skip` passes behind it.
-- Assumes nothing.
use native.Mathlib.Omega.{arith}
use Prim.Native.Nat.{◌+◌}
use mathlib.Core.Path.{◌≡◌}
use Rattle.skip.specs.Skip.{stays_but, Passed}
use Rattle.skip.specs.SkipLaws.{passes_none, passes_on, passes_count, passes_all}
use Rattle.skip.proofs.skip_near.Goals as goal
use Rattle.skip.proofs.skip_near.Goals.{After-count-n}

-- as far as the block was counted
passed : (c : After-count-n)
    → Passed (stays_but c.args.a c.args.b c.args.c) c.args.source.now c.args.at
    (c.args.at + c.count-n.result)
passed c = passes_count (omega (arith, c.requires, c.if-source-at-lt32.false)) c.count-n.ensures

pub returns-then-not-stays : goal.returns-then-not-stays
returns-then-not-stays c = passes_none c.requires

pub returns-then-n-lt32 : goal.returns-then-n-lt32
returns-then-n-lt32 c = passed (goal.at.returns-then-n-lt32 c).After-count-n

pub returns : goal.returns
returns c =
    let all : c.count-n.result ≡ 32 = omega (arith, c.count-n.ensures.less, c.if-n-lt32.false) in
    passes_on (passes_all _ (passed (goal.at.returns c).After-count-n) all) c.skip.ensures
