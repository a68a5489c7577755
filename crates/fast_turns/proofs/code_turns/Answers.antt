-- `fast_turns::code_turns` meets its contract: a run, and then what changes the modes. Assumes nothing.
use mathlib.Core.Path.{sym, subst}
use Rattle.turns.specs.TurnsLaws.{turns_after}
use Rattle.fast_turns.specs.Steps.{CodeMode}
use Rattle.fast_turns.proofs.code_turns.Goals as goal

pub bracket_turn-requires : goal.bracket_turn-requires
bracket_turn-requires c =
    let p = c.requires in
    (record { ok = c.code_run-run.ensures.ran.ok; fit = p.0.fit }, subst CodeMode (sym c.code_run-run.ensures.mode) p.2)

pub returns : goal.returns
returns c =
    turns_after c.code_run-run.ensures.ran c.bracket_turn.ensures
