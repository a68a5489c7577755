-- `format_options::letters::representation_of` meets its contract: each return is a case of `representation_of`. Assumes nothing.
use mathlib.Core.Path.{sym}
use Rattle.base.specs.CasesLaws.{chain}
use Rattle.format_options.specs.Letters.{representation_of}
use Rattle.format_options.proofs.letters.representation_of.Goals as goal

pub returns-then-c-eq-QUESTION : goal.returns-then-c-eq-QUESTION
unfolding representation_of
returns-then-c-eq-QUESTION c = sym (search chain depth 12 fits 4000)

pub returns-then-c-eq-LETTER_B : goal.returns-then-c-eq-LETTER_B
unfolding representation_of
returns-then-c-eq-LETTER_B c = sym (search chain depth 12 fits 4000)

pub returns-then-c-eq-LETTER_O : goal.returns-then-c-eq-LETTER_O
unfolding representation_of
returns-then-c-eq-LETTER_O c = sym (search chain depth 12 fits 4000)

pub returns-then-c-eq-LETTER_X : goal.returns-then-c-eq-LETTER_X
unfolding representation_of
returns-then-c-eq-LETTER_X c = sym (search chain depth 12 fits 4000)

pub returns-then-c-eq-CAPITAL_X : goal.returns-then-c-eq-CAPITAL_X
unfolding representation_of
returns-then-c-eq-CAPITAL_X c = sym (search chain depth 12 fits 4000)

pub returns-then-c-eq-LETTER_E : goal.returns-then-c-eq-LETTER_E
unfolding representation_of
returns-then-c-eq-LETTER_E c = sym (search chain depth 12 fits 4000)

pub returns-then-c-eq-CAPITAL_E : goal.returns-then-c-eq-CAPITAL_E
unfolding representation_of
returns-then-c-eq-CAPITAL_E c = sym (search chain depth 12 fits 4000)

pub returns : goal.returns
unfolding representation_of
returns c = sym (search chain depth 12 fits 4000)
