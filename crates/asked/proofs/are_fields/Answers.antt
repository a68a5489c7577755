-- `asked::are_fields` meets its contract: each return is a case of its definition. Assumes nothing.
use mathlib.Core.Path.{sym, ◌∙◌}
use borrow.Author.Tests.{le-leb}
use Rattle.base.specs.CasesLaws.{and_yes, and_no, cases}
use Rattle.asked.specs.Fields.{are_fields}
use Rattle.asked.proofs.are_fields.Goals as goal

pub returns-then-are_numbers : goal.returns-then-are_numbers
unfolding are_fields
returns-then-are_numbers c = sym (search cases depth 12 fits 4000)

pub returns-else-are_numbers : goal.returns-else-are_numbers
unfolding are_fields
returns-else-are_numbers c =
    sym (and_yes _ _ _ (le-leb _ _ c.if-alignment-le-RIGHT.true) (and_no _ _ (sym c.are_numbers.ensures ∙ c.if-are_numbers.false) ∙ sym c.if-are_numbers.false))

pub returns-else-alignment-le-RIGHT : goal.returns-else-alignment-le-RIGHT
unfolding are_fields
returns-else-alignment-le-RIGHT c = sym (search cases depth 12 fits 4000)
