-- `numbers::is_fraction` meets its contract: it asks for the bytes in the order of `fraction_at`, so each return is a case of it.
-- Assumes nothing.
use mathlib.Core.Path.{sym, ◌∙◌}
use Rattle.numbers.specs.PlaceLaws.{tests}
use Rattle.numbers.specs.NumberLaws.{fraction_at}
use Rattle.numbers.proofs.is_fraction.Goals as goal

pub returns-then-is_digit : goal.returns-then-is_digit
returns-then-is_digit c = sym (fraction_at c.requires ∙ search tests depth 10)

pub returns-then-b-ne-LETTER_E : goal.returns-then-b-ne-LETTER_E
returns-then-b-ne-LETTER_E c = sym (fraction_at c.requires ∙ search tests depth 10)

pub returns-then-is_digit-2 : goal.returns-then-is_digit-2
returns-then-is_digit-2 c = sym (fraction_at c.requires ∙ search tests depth 10)

pub returns-then-c-eq-UNDERSCORE : goal.returns-then-c-eq-UNDERSCORE
returns-then-c-eq-UNDERSCORE c = sym (fraction_at c.requires ∙ search tests depth 10)

pub returns-then-c-eq-PLUS : goal.returns-then-c-eq-PLUS
returns-then-c-eq-PLUS c = sym (fraction_at c.requires ∙ search tests depth 10)

pub returns-then-c-eq-MINUS : goal.returns-then-c-eq-MINUS
returns-then-c-eq-MINUS c = sym (fraction_at c.requires ∙ search tests depth 10)

pub returns : goal.returns
returns c = sym (fraction_at c.requires ∙ search tests depth 10)
