-- `pool_lent::add_to_fit_row` meets its contract; `Adds.antt` has what the calls come to. Assumes nothing.
use Rattle.std.proofs.Common.{◌≡◌, true, ◌<◌, ◌^◌, length, sym, ◌∙◌, arith}
use Rattle.pool_rows.specs.FitLaws.{searchable}
use Rattle.pool_lent.specs.Entries.{numbers_of}
use Rattle.pool_lent.proofs.Adds.{in_bytes, is_free, fit_old, fit_new}
use Rattle.pool_lent.proofs.add_to_fit_row.Goals as goal
use Rattle.pool_lent.proofs.add_to_fit_row.Goals.{After-is_new}

-- what is free where the index is new
free : (d : After-is_new) → d.is_new.result ≡ true
    → (d.args.counts.entries < length d.args.entries.now) × (length d.args.string.now < 2 ^ 32)
free d e =
    let a = d.args in
    is_free a.bytes.now a.entries.now a.counts d.requires a.string.now _ d.find_string-found.ensures _ d.add_to_fit-answer.ensures.0 (sym d.is_new.ensures ∙ e)

pub find_string-found-requires : goal.find_string-found-requires
find_string-found-requires c =
    searchable c.args.bytes.now (numbers_of c.args.entries.now) c.args.counts c.requires

pub add_to_fit-answer-requires : goal.add_to_fit-answer-requires
add_to_fit-answer-requires c = in_bytes c.args.bytes.now c.args.entries.now c.args.counts c.requires

pub overflow_cast-string : goal.overflow_cast-string
overflow_cast-string c = omega (arith, free (goal.at.overflow_cast-string c).After-is_new c.if-is_new.true)

pub put_entry-requires : goal.put_entry-requires
put_entry-requires c = (free (goal.at.put_entry-requires c).After-is_new c.if-is_new.true).0

pub returns-then-is_new : goal.returns-then-is_new
returns-then-is_new c =
    let a = c.args in
    fit_new a.bytes.now a.entries.now a.counts c.requires a.string.now _ c.find_string-found.ensures _ c.add_to_fit-answer.ensures.0
    _ c.add_to_fit-answer.ensures.1 _ c.put_entry.ensures (sym c.is_new.ensures ∙ c.if-is_new.true)

pub returns-else-is_new : goal.returns-else-is_new
returns-else-is_new c =
    let a = c.args in
    fit_old a.bytes.now a.entries.now a.counts c.requires a.string.now _ c.find_string-found.ensures _ c.add_to_fit-answer.ensures.0
    _ c.add_to_fit-answer.ensures.1 (sym c.is_new.ensures ∙ c.if-is_new.false)
