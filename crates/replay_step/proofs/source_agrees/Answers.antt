-- `replay_step::source_agrees` meets its contract: a source that is short and well formed is one of which the state's invariant holds at the
-- start. Assumes nothing.
use Rattle.std.proofs.Common.{sym, ◌∙◌}
use Rattle.utf8.specs.CharsLaws.{well_of_fine}
use Rattle.stepping.specs.InvariantLaws.{start_ok_lem}
use Rattle.replay_step.proofs.source_agrees.Goals as goal

pub steps_agree-requires : goal.steps_agree-requires
steps_agree-requires c =
    (c.requires, start_ok_lem _ c.if-source-gt1048576.false (well_of_fine 0 _ (sym c.check_utf8.ensures ∙ c.in-Ok.is)))
