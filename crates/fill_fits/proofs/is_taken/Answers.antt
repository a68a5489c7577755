-- `fill_fits::is_taken` meets its contract: each return is a case of its definition. Assumes nothing.
use mathlib.Core.Path.{sym, ap, ◌∙◌}
use Rattle.base.specs.CasesLaws.{or_no, cases}
use Rattle.std.specs.Prelude.{is_some}
use Rattle.fill_fits.proofs.is_taken.Goals as goal

pub returns-then-is_sign : goal.returns-then-is_sign
returns-then-is_sign c = sym (search cases depth 12 fits 4000)

pub returns-then-is_digit : goal.returns-then-is_digit
returns-then-is_digit c = sym (search cases depth 12 fits 4000)

pub returns-else-is_digit : goal.returns-else-is_digit
returns-else-is_digit c =
    sym (or_no _ _ _ (sym c.is_sign.ensures ∙ c.if-is_sign.false) (or_no _ _ _ (sym c.is_digit.ensures ∙ c.if-is_digit.false)
    (ap is_some (sym c.representation_of.ensures) ∙ sym c.is_some.ensures)))
