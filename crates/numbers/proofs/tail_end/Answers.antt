-- `numbers::tail_end` meets its contract: it asks for the bytes in the order of `tail_at`, so each return is a case of it.
-- Assumes nothing.
use native.Mathlib.Omega.{arith}
use mathlib.Core.Path.{sym, ◌∙◌}
use Rattle.text.specs.CountLaws.{decimal_ascii}
use Rattle.numbers.specs.PlaceLaws.{bytes, next_place, run_place}
use Rattle.numbers.specs.NumberLaws.{tail_at}
use Rattle.numbers.proofs.tail_end.Goals as goal

pub returns-then-byte_at-ne-DOT : goal.returns-then-byte_at-ne-DOT
returns-then-byte_at-ne-DOT c = sym (tail_at c.requires ∙ search bytes)

pub is_fraction-requires : goal.is_fraction-requires
is_fraction-requires c = next_place c.requires (omega arith)

pub returns-then-not-is_fraction : goal.returns-then-not-is_fraction
returns-then-not-is_fraction c = sym (tail_at c.requires ∙ search bytes)

pub run_end-requires : goal.run_end-requires
run_end-requires c = (next_place c.requires (omega arith)).well

pub exponent_end-requires-2 : goal.exponent_end-requires-2
exponent_end-requires-2 c = rw c.run_end.ensures (run_place (next_place c.requires (omega arith)) decimal_ascii)

pub returns : goal.returns
returns c =
    let e = rw c.run_end.ensures at c.exponent_end-2.ensures in
    sym (tail_at c.requires ∙ search bytes)
