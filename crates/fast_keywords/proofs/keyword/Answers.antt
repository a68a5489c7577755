-- `fast_keywords::keyword` meets its contract: near the end of the source `keywords` answers, and else one comparison does. Assumes nothing.
use native.Mathlib.Omega.{arith}
use lib.ListN.{drop, length-take}
use Rattle.keywords.proofs.Narrow.{by_length}
use Rattle.fast_keywords.proofs.keyword.Goals as goal

pub returns-then-len-lt1 : goal.returns-then-len-lt1
returns-then-len-lt1 c =
    let a = c.args in
    by_length _ (λ h. omega (arith, h.0, c.if-len-lt1.true, length-take a.len (drop a.at a.source.now)))
