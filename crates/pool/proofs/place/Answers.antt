-- `pool::place` meets its contract: each answer is the case of `placed` that its tests say. Assumes nothing.
use mathlib.Core.Path.{sym}
use native.Mathlib.Omega.{arith}
use Rattle.pool.specs.PoolLaws.{placed_there, placed_no_entry, placed_few_bytes, placed_new}
use Rattle.pool.proofs.place.Goals as goal

pub returns-then-found-n : goal.returns-then-found-n
returns-then-found-n c = sym (placed_there _ _ _ _ _ (omega arith))

pub returns-then-entry_room-n : goal.returns-then-entry_room-n
returns-then-entry_room-n c = sym (placed_no_entry _ _ _ _ _ (omega arith) (omega arith))

pub returns-then-byte_room-used : goal.returns-then-byte_room-used
returns-then-byte_room-used c = sym (placed_few_bytes _ _ _ _ _ (omega arith) (omega arith) (omega arith))

pub returns : goal.returns
returns c = sym (placed_new _ _ _ _ _ (omega arith) (omega arith) (omega arith))
