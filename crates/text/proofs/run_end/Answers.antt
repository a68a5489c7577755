-- `text::run_end` meets its contract. The loop's invariant is `Counting`: the run from here on ends where the run from the start does.
-- Assumes nothing.
use mathlib.Core.Path.{sym, ◌∙◌}
use Rattle.text.proofs.Runs.{counting, counts_on, counts_stop, counts_end}
use Rattle.text.proofs.run_end.Goals as goal

pub loop-i-init : goal.loop-i-init
loop-i-init g c = counting _ g.met.T.ByteTest.ascii _ _ c.requires

pub returns-then-not-passes : goal.returns-then-not-passes
returns-then-not-passes g c =
    counts_stop _ g.met.T.ByteTest.ascii _ _ _ c.loop-i.invariant c.loop-i-test.true (sym c.passes.ensures ∙ c.if-not-passes.true)

pub loop-i-preserved : goal.loop-i-preserved
loop-i-preserved g c =
    counts_on _ g.met.T.ByteTest.ascii _ _ _ c.loop-i.invariant c.loop-i-test.true (sym c.passes.ensures ∙ c.if-not-passes.false)

pub returns : goal.returns
returns g c =
    c.max.ensures ∙ counts_end _ g.met.T.ByteTest.ascii _ _ _ c.loop-i.invariant c.loop-i-test.false c.loop-i.auto.i-end
