-- `fill_fits::one_fits` meets its contract: each return is a case of its definition. Assumes nothing.
use mathlib.Core.Path.{sym, ap, ◌∙◌}
use mathlib.Core.Bool.{not}
use borrow.Author.Tests.{ne_eqb}
use Rattle.base.specs.CasesLaws.{pick_yes, pick_no, and_yes, and_no, denied}
use Rattle.fill_fits.proofs.one_fits.Goals as goal

pub returns-then-not-is_default : goal.returns-then-not-is_default
returns-then-not-is_default c = sym (search denied depth 12 fits 4000)

pub returns-then-c-eq-ZERO : goal.returns-then-c-eq-ZERO
returns-then-c-eq-ZERO c = sym (search denied depth 12 fits 4000)

pub returns-then-has_tail : goal.returns-then-has_tail
returns-then-has_tail c = sym (pick_yes _ _ _ _ (sym c.is_default.ensures ∙ c.if-not-is_default.false) (pick_no _ _ _ _ (ne_eqb _ _ c.if-c-eq-ZERO.false) (and_no _ _ (ap not (sym c.has_tail.ensures ∙ c.if-has_tail.true)))))

pub returns : goal.returns
returns c =
    sym (pick_yes _ _ _ _ (sym c.is_default.ensures ∙ c.if-not-is_default.false) (pick_no _ _ _ _ (ne_eqb _ _ c.if-c-eq-ZERO.false)
    (and_yes _ _ _ (ap not (sym c.has_tail.ensures ∙ c.if-has_tail.false)) (ap not (sym c.is_taken.ensures)))))
