-- `fast_step::found_half` meets its contract: a token that is no Error does not stand still, so the half is told by whether its mode has room.
-- Assumes nothing.
use mathlib.Core.Path.{refl, sym, ◌∙◌}
use Rattle.base.specs.CasesLaws.{pick_yes}
use Rattle.lexer.specs.Step.{stood_still}
use Rattle.fast_step.proofs.found_half.Goals as goal

pub returns-then-is_full : goal.returns-then-is_full
returns-then-is_full c = sym (pick_yes _ _ _ _ (sym c.is_full.ensures ∙ c.if-is_full.true) refl)

pub returns : goal.returns
unfolding stood_still
returns c =
    rw (sym c.is_full.ensures ∙ c.if-is_full.false, c.requires) (cc)
