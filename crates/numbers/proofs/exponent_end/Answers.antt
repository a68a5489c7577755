-- `numbers::exponent_end` meets its contract: it asks for the bytes in the order of `exponent_at`, so each return is a case of it.
-- Assumes nothing.
use native.Mathlib.Omega.{arith}
use mathlib.Core.Path.{sym, ◌∙◌}
use mathlib.Core.Logic.{⊎_elim}
use Rattle.numbers.specs.PlaceLaws.{bytes, next_place, two_places}
use Rattle.numbers.specs.NumberLaws.{exponent_at}
use Rattle.numbers.proofs.exponent_end.Goals as goal

pub returns-then-byte_at-ne-LETTER_E : goal.returns-then-byte_at-ne-LETTER_E
returns-then-byte_at-ne-LETTER_E c = sym (exponent_at c.requires ∙ search bytes)

pub run_end-requires : goal.run_end-requires
run_end-requires c = (two_places c.requires (omega arith) (omega arith)).well

pub returns-then-sign-eq-PLUS : goal.returns-then-sign-eq-PLUS
returns-then-sign-eq-PLUS c =
    ⊎_elim (λ w. sym (exponent_at c.requires ∙ search bytes)) (λ w. sym (exponent_at c.requires ∙ search bytes)) c.then-sign-eq-PLUS.either

pub run_end-requires-2 : goal.run_end-requires-2
run_end-requires-2 c = (next_place c.requires (omega arith)).well

pub returns : goal.returns
returns c = sym (exponent_at c.requires ∙ search bytes)
