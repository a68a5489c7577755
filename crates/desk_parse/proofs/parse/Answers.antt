-- `desk_parse::parse` meets its contract: where the desks are fit, it is the parse in the part of the rows that the desk may fill. Assumes nothing.
use Rattle.std.specs.Prelude.{Err}
use Prim.Native.Nat.{ℕ, ◌*◌, ◌≤◌}
use native.Mathlib.Omega.{arith}
use mathlib.Core.Path.{◌≡◌, refl, sym, ap, ◌∙◌}
use mathlib.Core.Bool.{true}
use lib.ListN.{length}
use lib.Seq.{length-take-le}
use Rattle.pool_rows.specs.Rows.{entry_room, byte_room}
use Rattle.pool_rows.specs.FitLaws.{entry_room_lem, room_within}
use Rattle.pool_rows.specs.declared.Counts.{Counts}
use Rattle.desks.specs.Desks.{Shared, shared, fit_desks, entries_for, bytes_for}
use Rattle.desk_parse.specs.Own.{owned_up}
use Rattle.desk_parse.specs.CallLaws.{settled_unfit, InPart, in_part, settled}
use Rattle.desk_parse.proofs.parse.Goals as goal
use Rattle.desk_parse.proofs.parse.Goals.{After-parse-after, After-room_for-room}

-- the pool that is lent
abbrev lent : After-room_for-room → Shared
lent q =
    let a = q.args in
    shared a.bytes.now a.entries.now a.owners.now a.terms.counts a.desks

fits : (q : After-room_for-room) → fit_desks (lent q) ≡ true
fits q = sym q.is_fit.ensures ∙ q.if-not-is_fit.false

entry_end : (q : After-room_for-room) → q.room_for-room.result.entries ≡ entries_for (entry_room (lent q).entries) q.args.which (lent q).desks
entry_end q =
    ap (λ (c : Counts). c.entries) q.room_for-room.ensures
    ∙ ap (λ (k : ℕ). entries_for k q.args.which (lent q).desks) q.room_of-entry_room.ensures

byte_end : (q : After-room_for-room) → q.room_for-room.result.bytes ≡ bytes_for (byte_room (lent q).bytes) q.args.which (lent q).desks
byte_end q =
    ap (λ (c : Counts). c.bytes) q.room_for-room.ensures
    ∙ ap (λ (k : ℕ). bytes_for k q.args.which (lent q).desks) q.room_of-byte_room.ensures

bytes_within : (q : After-room_for-room) → q.room_for-room.result.bytes ≤ length (lent q).bytes
bytes_within q = omega (arith, byte_end q, (room_within (length (lent q).bytes)).0)

entries_within : (q : After-room_for-room) → 2 * q.room_for-room.result.entries ≤ length (lent q).entries
entries_within q = entry_room_lem (lent q).entries _ (omega (arith, entry_end q))

said : (p : After-parse-after)
    → InPart p.args.format.now p.args.table.now p.args.terms.edition
    p.args.which (lent (goal.at.After-parse-after p).After-room_for-room) p.room_for-room.result.bytes p.room_for-room.result.entries (fits (goal.at.After-parse-after p).After-room_for-room)
    (byte_end (goal.at.After-parse-after p).After-room_for-room) (entry_end (goal.at.After-parse-after p).After-room_for-room) p.parse-after.new.bytes p.parse-after.new.entries p.parse-after.result p.parse-after.ensures
said p =
    in_part _ _ _ p.args.which (lent (goal.at.After-parse-after p).After-room_for-room) _ _ (fits (goal.at.After-parse-after p).After-room_for-room) (byte_end (goal.at.After-parse-after p).After-room_for-room) (entry_end (goal.at.After-parse-after p).After-room_for-room) _ _ _ p.parse-after.ensures

pub returns-then-not-is_fit : goal.returns-then-not-is_fit
returns-then-not-is_fit c =
    settled_unfit _ _ _ c.args.which _ (sym c.is_fit.ensures ∙ c.if-not-is_fit.true) _
    (ap Err c.refuse.ensures) refl refl

pub slice_bounds-parse-end : goal.slice_bounds-parse-end
slice_bounds-parse-end c = bytes_within (goal.at.slice_bounds-parse-end c).After-room_for-room

pub slice_bounds-parse-end-2 : goal.slice_bounds-parse-end-2
slice_bounds-parse-end-2 c = sym (length-take-le _ _ (bytes_within (goal.at.slice_bounds-parse-end-2 c).After-room_for-room))

pub slice_bounds-parse-end-3 : goal.slice_bounds-parse-end-3
slice_bounds-parse-end-3 c = entries_within (goal.at.slice_bounds-parse-end-3 c).After-room_for-room

pub slice_bounds-parse-end-4 : goal.slice_bounds-parse-end-4
slice_bounds-parse-end-4 c = sym (length-take-le _ _ (entries_within (goal.at.slice_bounds-parse-end-4 c).After-room_for-room))

pub own_up-requires : goal.own_up-requires
own_up-requires c = let p = said (goal.at.own_up-requires c).After-parse-after in (p.more_entries, p.owned)

pub charge_up-requires : goal.charge_up-requires
charge_up-requires c = let p = said (goal.at.charge_up-requires c).After-parse-after in record { entries_le_entries = (p.more_entries, p.more_bytes); desks_bound = (p.few_entries, p.few_bytes) }

pub returns : goal.returns
returns c =
    settled _ _ _ c.args.which (lent (goal.at.returns c).After-room_for-room) _ _ (fits (goal.at.returns c).After-room_for-room) (byte_end (goal.at.returns c).After-room_for-room) (entry_end (goal.at.returns c).After-room_for-room) _ _ _ c.parse-after.ensures _ _ refl refl c.charge_up.ensures
    (c.own_up.ensures
    ∙ ap (λ (o : ℕ). owned_up o (lent (goal.at.returns c).After-room_for-room).owners (lent (goal.at.returns c).After-room_for-room).counts.entries c.parse-after.result.counts.entries) c.owner_of.ensures)
