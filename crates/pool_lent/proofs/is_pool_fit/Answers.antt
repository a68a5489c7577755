-- `pool_lent::is_pool_fit` meets its contract: it takes the tests of the flat pool in their order. Assumes nothing.
use Rattle.std.proofs.Common.{sym, ◌∙◌, arith, length}
use Rattle.pool_rows.specs.FitLaws.{room_within}
use Rattle.pool_lent.specs.EntriesLaws.{numbers_long}
use Rattle.pool_lent.proofs.Adds.{no_entries, no_bytes, fit_is}
use Rattle.pool_lent.proofs.is_pool_fit.Goals as goal

pub returns-then-room_of-counts : goal.returns-then-room_of-counts
returns-then-room_of-counts c = sym (no_entries c.args.bytes.now c.args.entries.now c.args.counts (omega (arith, c.room_of.ensures)))

pub returns-then-room_of-counts-2 : goal.returns-then-room_of-counts-2
returns-then-room_of-counts-2 c =
    sym
    (no_bytes c.args.bytes.now c.args.entries.now c.args.counts (omega (arith, c.room_of.ensures))
    (omega (arith, c.room_of-2.ensures)))

pub runs_to-requires : goal.runs_to-requires
runs_to-requires c =
    omega (arith, c.room_of.ensures, (room_within (length c.args.entries.now)).0, numbers_long c.args.entries.now)

pub returns : goal.returns
returns c =
    c.runs_to.ensures
    ∙ sym
    (fit_is c.args.bytes.now c.args.entries.now c.args.counts (omega (arith, c.room_of.ensures))
    (omega (arith, c.room_of-2.ensures)))
