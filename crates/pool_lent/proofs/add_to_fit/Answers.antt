-- `pool_lent::add_to_fit` meets its contract: the answer is that of `placed` for the room of the rows, and only a new index has its string
-- copied in. Assumes nothing.
use mathlib.Core.Path.{◌≡◌, refl, sym, ap, ◌∙◌}
use mathlib.Core.Bool.{true}
use Prim.Native.Nat.{◌+◌, ◌≤◌}
use native.Mathlib.Omega.{arith}
use lib.ListN.{length}
use Rattle.pool_rows.specs.Rows.{room_of, byte_room}
use Rattle.pool.specs.Pool.{placed, is_new}
use Rattle.pool_rows.specs.FitLaws.{room_within}
use Rattle.pool.specs.PoolLaws.{placed_same, old_bytes, new_bytes_lem}
use Rattle.pool_lent.proofs.Numbers.{new_room}
use Rattle.pool_lent.proofs.add_to_fit.Goals as goal
use Rattle.pool_lent.proofs.add_to_fit.Goals.{After-is_new}

answer_is : (c : After-is_new)
    → let a = c.args in
    c.place-answer.result ≡ placed (length a.string.now) a.found a.counts (room_of a.entries) (byte_room a.bytes.now)
answer_is c =
    c.place-answer.ensures
    ∙ placed_same _ _ _ _ _ _ _ _ refl c.room_of-entry_room.ensures c.room_of-byte_room.ensures

has_room : (c : After-is_new) → c.is_new.result ≡ true
    → let a = c.args in
    a.counts.bytes + length a.string.now ≤ length a.bytes.now
has_room c e =
    let a = c.args in
    let free = new_room (length a.string.now) a.found a.counts (room_of a.entries) (byte_room a.bytes.now)
    (ap (is_new a.counts) (sym (answer_is c)) ∙ sym c.is_new.ensures ∙ e) in
    omega (arith, free.1, (room_within (length a.bytes.now)).0)

pub returns-then-not-is_new : goal.returns-then-not-is_new
returns-then-not-is_new c =
    let old = sym c.is_new.ensures ∙ c.if-not-is_new.true in
    (answer_is (goal.at.returns-then-not-is_new c).After-is_new, sym (old_bytes _ _ _ old _))

pub copy_in-requires : goal.copy_in-requires
copy_in-requires c = has_room (goal.at.copy_in-requires c).After-is_new c.if-not-is_new.false

pub returns : goal.returns
returns c =
    let new = sym c.is_new.ensures ∙ c.if-not-is_new.false in
    (answer_is (goal.at.returns c).After-is_new, c.copy_in.ensures ∙ sym (new_bytes_lem _ _ _ new _))
