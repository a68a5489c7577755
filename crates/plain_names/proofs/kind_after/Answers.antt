-- `plain_names::kind_after` meets its contract: each return is a case of the pick. Assumes nothing.
use borrow.Author.Tests.{eq-eqb, ne_eqb}
use mathlib.Core.Path.{refl, sym}
use Rattle.base.specs.CasesLaws.{pick_yes, pick_no}
use Rattle.plain_names.proofs.kind_after.Goals as goal

pub returns-then-previous-eq-DOT : goal.returns-then-previous-eq-DOT
returns-then-previous-eq-DOT c = sym (pick_yes _ _ _ _ (eq-eqb _ _ c.if-previous-eq-DOT.true) refl)

pub returns : goal.returns
returns c = sym (pick_no _ _ _ _ (ne_eqb _ _ c.if-previous-eq-DOT.false) refl)
