-- `held::is_one` meets its contract: it compares in the order of `is_one`. Assumes nothing.
use mathlib.Core.Path.{sym, ◌∙◌}
use borrow.Author.Tests.{eq-eqb, ne_eqb}
use Rattle.base.specs.CasesLaws.{and_yes, and_no, told, told_yes, told_no, cases}
use Rattle.held.proofs.is_one.Goals as goal

pub returns-then-is_span : goal.returns-then-is_span
returns-then-is_span c = sym (search cases depth 12)

pub returns-else-is_span : goal.returns-else-is_span
returns-else-is_span c =
    sym (and_yes _ _ _ (told_yes _ _ _ c.first_of.ensures c.if-first_of-first.true) (and_yes _ _ _ (eq-eqb _ _ c.if-row-there.true)
    (and_yes _ _ _ (eq-eqb _ _ c.if-row-there-2.true) (and_no _ _ (told _ _ _ c.is_span.ensures c.if-is_span.false) ∙ sym c.if-is_span.false))))

pub returns-else-row-there-2 : goal.returns-else-row-there-2
returns-else-row-there-2 c = sym (search cases depth 12)

pub returns-else-row-there : goal.returns-else-row-there
returns-else-row-there c = sym (search cases depth 12)

pub returns-else-first_of-first : goal.returns-else-first_of-first
returns-else-first_of-first c = sym (and_no _ _ (told_no _ _ _ c.first_of.ensures c.if-first_of-first.false) ∙ sym (ne_eqb _ _ c.if-first_of-first.false))
