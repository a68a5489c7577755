-- `options::find_brace` meets its contract. The loop's invariant is `Searching`: what is found from here is what was to be found from the
-- start. Assumes nothing.
use Rattle.options.proofs.Search.{searching, searches_on, found, nowhere}
use Rattle.options.proofs.find_brace.Goals as goal

pub loop-i-init : goal.loop-i-init
loop-i-init c = searching _ _ c.requires

pub returns-then-source-i-eq125 : goal.returns-then-source-i-eq125
returns-then-source-i-eq125 c =
    found _ _ _ c.loop-i.invariant c.loop-i-test.true c.if-source-i-eq125.true

pub loop-i-preserved : goal.loop-i-preserved
loop-i-preserved c =
    searches_on _ _ _ c.loop-i.invariant c.loop-i-test.true c.if-source-i-eq125.false

pub returns : goal.returns
returns c = nowhere _ _ _ c.loop-i.invariant c.loop-i-test.false
