-- `numbers::number_end` meets its contract: it asks for the bytes in the order of `number_at`, so each return is a case of it.
-- Assumes nothing.
use native.Mathlib.Omega.{arith}
use mathlib.Core.Path.{sym, ◌∙◌}
use Rattle.numbers.specs.PlaceLaws.{bytes, next_place}
use Rattle.numbers.specs.NumberLaws.{whole_place, number_at}
use Rattle.numbers.proofs.number_end.Goals as goal

pub run_end-whole-requires : goal.run_end-whole-requires
run_end-whole-requires c = (next_place c.requires.place_in (omega arith)).well

pub tail_end-requires : goal.tail_end-requires
tail_end-requires c = rw c.run_end-whole.ensures (whole_place c.requires.place_in (omega arith))

pub returns-then-byte_at-ne-ZERO : goal.returns-then-byte_at-ne-ZERO
returns-then-byte_at-ne-ZERO c =
    let e = rw c.run_end-whole.ensures at c.tail_end.ensures in
    sym (number_at c.requires.place_in (omega arith) ∙ search bytes depth 8)

pub tail_end-requires-then-whole-at : goal.tail_end-requires-then-whole-at
tail_end-requires-then-whole-at c = rw c.run_end-whole.ensures (whole_place c.requires.place_in (omega arith))

pub returns-then-whole-at : goal.returns-then-whole-at
returns-then-whole-at c =
    let e = rw c.run_end-whole.ensures at c.tail_end-then-whole-at.ensures in
    sym (number_at c.requires.place_in (omega arith) ∙ search bytes depth 8)

pub zero_end-requires : goal.zero_end-requires
zero_end-requires c = rw c.run_end-whole.ensures (whole_place c.requires.place_in (omega arith))

pub returns : goal.returns
returns c =
    let e = rw c.run_end-whole.ensures at c.zero_end.ensures in
    sym (number_at c.requires.place_in (omega arith) ∙ search bytes depth 8)
