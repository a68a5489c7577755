-- `desks::is_fit` meets its contract: the code takes the tests of `fit_desks` in its order. Assumes nothing.
use Prim.Native.Nat.{◌≤◌}
use mathlib.Core.Path.{◌≡◌, sym, ap, ◌∙◌}
use mathlib.Core.Bool.{true, not}
use native.Mathlib.Omega.{arith}
use lib.ListN.{length}
use Rattle.pool_rows.specs.Rows.{entry_room, fit_pool}
use Rattle.desks.specs.FitLaws.{countable, no_pool, no_owners, no_charge, no_charge_2, no_entries, rest_is, charge_is, entries_are, bytes_are}
use Rattle.desks.proofs.is_fit.Goals as goal
use Rattle.desks.proofs.is_fit.Goals.{Else-owners-entry_room}

-- past the first two tests
pool_yes : (q : Else-owners-entry_room) → fit_pool q.args.bytes.now q.args.entries.now q.args.counts ≡ true
pool_yes q = sym q.is_pool_fit.ensures ∙ q.if-not-is_pool_fit.false

owned : (q : Else-owners-entry_room) → entry_room q.args.entries.now ≤ length q.args.owners.now
owned q = omega (arith, q.room_of-entry_room.ensures, q.if-owners-entry_room.false)

pub returns-then-not-is_pool_fit : goal.returns-then-not-is_pool_fit
returns-then-not-is_pool_fit c = sym (no_pool _ (sym c.is_pool_fit.ensures ∙ c.if-not-is_pool_fit.true))

pub returns-then-owners-entry_room : goal.returns-then-owners-entry_room
returns-then-owners-entry_room c =
    sym
    (no_owners _ (sym c.is_pool_fit.ensures ∙ c.if-not-is_pool_fit.false) (omega (arith, c.room_of-entry_room.ensures, c.if-owners-entry_room.true)))

pub held_by-requires : goal.held_by-requires
held_by-requires c =
    let a = c.args in
    let p = countable a.bytes.now a.entries.now a.counts (pool_yes (goal.at.held_by-requires c).Else-owners-entry_room) in
    (p.0, omega (arith, owned (goal.at.held_by-requires c).Else-owners-entry_room, p.3), p.1, p.2)

pub returns-then-ne : goal.returns-then-ne
returns-then-ne c =
    sym
    (no_charge _ (pool_yes (goal.at.returns-then-ne c).Else-owners-entry_room) (owned (goal.at.returns-then-ne c).Else-owners-entry_room)
    (charge_is _ _ _ c.held_by.ensures c.ne.ensures ∙ ap not c.if-ne.true))

pub held_by-requires-2 : goal.held_by-requires-2
held_by-requires-2 c =
    let a = c.args in
    let p = countable a.bytes.now a.entries.now a.counts (pool_yes (goal.at.held_by-requires-2 c).Else-owners-entry_room) in
    (p.0, omega (arith, owned (goal.at.held_by-requires-2 c).Else-owners-entry_room, p.3), p.1, p.2)

pub returns-then-ne-2 : goal.returns-then-ne-2
returns-then-ne-2 c =
    sym
    (no_charge_2 _ (pool_yes (goal.at.returns-then-ne-2 c).Else-owners-entry_room) (owned (goal.at.returns-then-ne-2 c).Else-owners-entry_room)
    (charge_is _ _ _ c.held_by.ensures c.ne.ensures ∙ ap not c.if-ne.false)
    (charge_is _ _ _ c.held_by-2.ensures c.ne-2.ensures ∙ ap not c.if-ne-2.true))

pub returns-then-not-are_entries_shared : goal.returns-then-not-are_entries_shared
returns-then-not-are_entries_shared c =
    let a = c.args in
    sym
    (no_entries _ (pool_yes (goal.at.returns-then-not-are_entries_shared c).Else-owners-entry_room) (owned (goal.at.returns-then-not-are_entries_shared c).Else-owners-entry_room)
    (charge_is _ _ _ c.held_by.ensures c.ne.ensures ∙ ap not c.if-ne.false)
    (charge_is _ _ _ c.held_by-2.ensures c.ne-2.ensures ∙ ap not c.if-ne-2.false)
    (entries_are _ _ a.counts a.desks.first a.desks.second c.room_of-entry_room.ensures c.are_entries_shared.ensures
    ∙ c.if-not-are_entries_shared.true))

pub returns : goal.returns
returns c =
    let a = c.args in
    sym
    (rest_is _ (pool_yes (goal.at.returns c).Else-owners-entry_room) (owned (goal.at.returns c).Else-owners-entry_room)
    (charge_is _ _ _ c.held_by.ensures c.ne.ensures ∙ ap not c.if-ne.false)
    (charge_is _ _ _ c.held_by-2.ensures c.ne-2.ensures ∙ ap not c.if-ne-2.false)
    (entries_are _ _ a.counts a.desks.first a.desks.second c.room_of-entry_room.ensures c.are_entries_shared.ensures
    ∙ c.if-not-are_entries_shared.false)
    (bytes_are _ _ a.counts a.desks.first a.desks.second c.room_of.ensures c.are_bytes_shared.ensures))
