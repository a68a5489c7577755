-- `text::run_utf8` meets its contract. The loop's invariant is `Running`: the run from here on reaches as far as the run from the start.
-- Assumes nothing.
use native.Mathlib.Omega.{arith}
use Prim.Native.Nat.{ℕ}
use mathlib.Core.Path.{◌≡◌, sym, ap, ◌∙◌}
use Rattle.position.specs.Place.{along_by}
use Rattle.property.specs.Parts.{width_of}
use Rattle.text.specs.CountLaws.{width_most_lem}
use Rattle.text.proofs.Runs.{running, runs_well, runs_fit, runs_on, runs_fall, runs_stop, runs_end, once_on, once_fall}
use Rattle.text.proofs.run_utf8.Goals as goal
use Rattle.text.proofs.run_utf8.Goals.{After-along-reach}

pub loop-i-init : goal.loop-i-init
loop-i-init g c = running _ _ _ _ c.requires.0

pub along_ascii-reach-requires : goal.along_ascii-reach-requires
along_ascii-reach-requires g c = omega (arith, c.loop-i.invariant.stands)

pub loop-i-smaller-then-passes_at_once : goal.loop-i-smaller-then-passes_at_once
loop-i-smaller-then-passes_at_once g c =
    once_fall _ _ _ c.loop-i.invariant g.met.T.CharTest.once c.requires.1 c.loop-i-test.true
    (sym c.passes_at_once.ensures ∙ c.if-passes_at_once.true) _ c.along_ascii-reach.ensures

pub loop-i-preserved-then-passes_at_once : goal.loop-i-preserved-then-passes_at_once
loop-i-preserved-then-passes_at_once g c =
    once_on _ _ _ c.loop-i.invariant g.met.T.CharTest.once c.requires.1 c.loop-i-test.true
    (sym c.passes_at_once.ensures ∙ c.if-passes_at_once.true) _ c.along_ascii-reach.ensures

pub char_near-c-requires : goal.char_near-c-requires
char_near-c-requires g c =
    record { well_formed = (runs_well _ _ _ c.loop-i.invariant, c.loop-i-test.true); fit_table = c.requires.1 }

pub returns-then-not-passes : goal.returns-then-not-passes
returns-then-not-passes g c =
    runs_stop _ _ _ c.loop-i.invariant _ c.char_near-c.ensures
    (ap (g.T.CharTest.test _) (sym c.char_near-c.ensures.properties) ∙ sym c.passes.ensures ∙ c.if-not-passes.true)

pub along-reach-requires : goal.along-reach-requires
along-reach-requires g c =
    record { byte_le_source_most = (runs_fit _ _ _ c.loop-i.invariant _ c.char_near-c.ensures c.width_of.result (rw c.width_of.ensures (width_most_lem _))).0; column_le_column_most = (runs_fit _ _ _ c.loop-i.invariant _ c.char_near-c.ensures _ (rw c.width_of.ensures (width_most_lem _))).1 }

-- the reach after a turn
after : (g : _) (c : After-along-reach g)
    → c.along-reach.result ≡ along_by c.char_near-c.result.char.len (width_of c.char_near-c.result.char.properties) c.loop-i.reach
after g c =
    c.along-reach.ensures
    ∙ ap (λ (w : ℕ). along_by c.char_near-c.result.char.len w c.loop-i.reach) c.width_of.ensures

pub loop-i-smaller : goal.loop-i-smaller
loop-i-smaller g c =
    runs_fall _ _ _ c.loop-i.invariant _ c.char_near-c.ensures _ (after g c)

pub loop-i-preserved : goal.loop-i-preserved
loop-i-preserved g c =
    runs_on _ _ _ c.loop-i.invariant _ c.char_near-c.ensures
    (ap (g.T.CharTest.test _) (sym c.char_near-c.ensures.properties)
    ∙ sym c.passes.ensures
    ∙ c.if-not-passes.false)
    _ (after g c)

pub returns : goal.returns
returns g c = runs_end _ _ _ c.loop-i.invariant c.loop-i-test.false
