-- `fast_turns::code_run` meets its contract: the loop's head is what was run so far, and each turn is one more. Assumes nothing.
use mathlib.Core.Path.{refl, sym, subst}
use Rattle.turns.specs.TurnsLaws.{ran_none}
use Rattle.fast_turns.specs.Steps.{CodeMode}
use Rattle.fast_turns.specs.StepsLaws.{run_falls, code_more}
use Rattle.fast_turns.proofs.code_run.Goals as goal

pub loop-layout-init : goal.loop-layout-init
loop-layout-init c = record { ran = ran_none c.requires.0.ok; mode = refl }

pub code_turn-turns-requires : goal.code_turn-turns-requires
code_turn-turns-requires c =
    let p = c.requires in
    (record { ok = c.loop-layout.invariant.ran.ok; fit = p.0.fit }, p.1, subst CodeMode (sym c.loop-layout.invariant.mode) p.2)

pub shape_of-list-then-not-on : goal.shape_of-list-then-not-on
shape_of-list-then-not-on c =
    (code_more c.loop-layout.invariant c.code_turn-turns.ensures c.copied-lexer.ensures).ran.long

pub returns-then-not-on : goal.returns-then-not-on
returns-then-not-on c =
    code_more c.loop-layout.invariant c.code_turn-turns.ensures c.copied-lexer.ensures

pub loop-layout-smaller : goal.loop-layout-smaller
loop-layout-smaller c =
    run_falls c.code_turn-turns.ensures.turns c.copied-lexer.ensures c.if-not-on.false

pub loop-layout-preserved : goal.loop-layout-preserved
loop-layout-preserved c =
    code_more c.loop-layout.invariant c.code_turn-turns.ensures c.copied-lexer.ensures
