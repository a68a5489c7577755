-- `fast_turns::fast_run` meets its contract: the loop's head is what was run so far, and each step adds its turns. Assumes nothing.
use Rattle.turns.specs.TurnsLaws.{ran_none}
use Rattle.fast_turns.specs.StepsLaws.{run_more, run_falls}
use Rattle.fast_turns.proofs.fast_run.Goals as goal

pub loop-layout-init : goal.loop-layout-init
loop-layout-init c = ran_none c.requires.0.ok

pub mode_turns-turns-requires : goal.mode_turns-turns-requires
mode_turns-turns-requires c =
    let p = c.requires in
    (record { ok = c.loop-layout.invariant.ok; fit = p.0.fit }, p.1)

pub shape_of-list-then-not-on : goal.shape_of-list-then-not-on
shape_of-list-then-not-on c =
    (run_more c.mode_turns-turns.ensures c.copied-lexer.ensures c.loop-layout.invariant).long

pub returns-then-not-on : goal.returns-then-not-on
returns-then-not-on c =
    run_more c.mode_turns-turns.ensures c.copied-lexer.ensures c.loop-layout.invariant

pub loop-layout-smaller : goal.loop-layout-smaller
loop-layout-smaller c =
    run_falls c.mode_turns-turns.ensures c.copied-lexer.ensures c.if-not-on.false

pub loop-layout-preserved : goal.loop-layout-preserved
loop-layout-preserved c =
    run_more c.mode_turns-turns.ensures c.copied-lexer.ensures c.loop-layout.invariant
