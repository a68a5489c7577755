-- `skip::skip_block` meets its contract: the block is passed as far as it was counted. Assumes nothing.
use native.Mathlib.Omega.{arith}
use Rattle.skip.specs.SkipLaws.{passes_count}
use Rattle.skip.proofs.skip_block.Goals as goal

pub returns : goal.returns
returns c =
    passes_count (omega (arith, c.requires, c.if-source-at-lt32.false)) c.count.ensures
