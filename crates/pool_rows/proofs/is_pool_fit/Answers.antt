-- `pool_rows::is_pool_fit` meets its contract: `is_fit` is asked with the room of the rows. Assumes nothing.
use mathlib.Core.Path.{◌∙◌}
use native.Mathlib.Omega.{arith}
use Rattle.pool_rows.specs.FitLaws.{entry_room_lem}
use Rattle.pool_rows.proofs.is_pool_fit.Goals as goal

pub is_fit-requires : goal.is_fit-requires
is_fit-requires c =
    entry_room_lem c.args.entries.now _ (omega (arith, c.room_of-entry_room.ensures))

pub returns : goal.returns
returns c = c.is_fit.ensures ∙ rw (c.room_of-entry_room.ensures, c.room_of-byte_room.ensures)
