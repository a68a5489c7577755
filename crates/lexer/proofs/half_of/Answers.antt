-- `lexer::half_of` meets its contract: each return is a case of `half_of`. Assumes nothing.
use mathlib.Core.Path.{refl, sym, ◌∙◌}
use Rattle.base.specs.CasesLaws.{pick_yes}
use Rattle.lexer.proofs.half_of.Goals as goal

pub returns-then-is_full : goal.returns-then-is_full
returns-then-is_full c = sym (pick_yes _ _ _ _ (sym c.is_full.ensures ∙ c.if-is_full.true) refl)

pub returns-then-stood_still : goal.returns-then-stood_still
returns-then-stood_still c =
    rw (sym c.is_full.ensures ∙ c.if-is_full.false, sym c.stood_still.ensures ∙ c.if-stood_still.true) (cc)

pub returns : goal.returns
returns c =
    rw (sym c.is_full.ensures ∙ c.if-is_full.false, sym c.stood_still.ensures ∙ c.if-stood_still.false) (cc)
