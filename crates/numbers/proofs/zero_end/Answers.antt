-- `numbers::zero_end` meets its contract: it asks for the byte in the order of `zero_at`, so each return is a case of it.
-- Assumes nothing.
use native.Mathlib.Omega.{arith}
use mathlib.Core.Path.{sym, ◌∙◌}
use Rattle.numbers.specs.PlaceLaws.{bytes, next_place}
use Rattle.numbers.specs.NumberLaws.{zero_at}
use Rattle.numbers.proofs.zero_end.Goals as goal

pub run_end-requires : goal.run_end-requires
run_end-requires c = (next_place c.requires (omega arith)).well

pub returns-in-98 : goal.returns-in-98
returns-in-98 c = sym (zero_at c.requires ∙ rw (sym c.byte_at.ensures ∙ c.in-98.is) (sym c.run_end.ensures))

pub run_end-requires-in-111 : goal.run_end-requires-in-111
run_end-requires-in-111 c = (next_place c.requires (omega arith)).well

pub returns-in-111 : goal.returns-in-111
returns-in-111 c = sym (zero_at c.requires ∙ rw (sym c.byte_at.ensures ∙ c.in-111.is) (sym c.run_end-in-111.ensures))

pub run_end-requires-in-120 : goal.run_end-requires-in-120
run_end-requires-in-120 c = (next_place c.requires (omega arith)).well

pub returns-in-120 : goal.returns-in-120
returns-in-120 c = sym (zero_at c.requires ∙ rw (sym c.byte_at.ensures ∙ c.in-120.is) (sym c.run_end-in-120.ensures))

pub returns-in_default : goal.returns-in_default
returns-in_default c = let r = c.in_default.in_default-own.rest in sym (zero_at c.requires ∙ search bytes)
