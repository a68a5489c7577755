-- `desk_add::add_string` meets its contract: where the desks are fit, the addition is that of the pool to the part of the rows that the desk may
-- fill; a new string is then given its owner, and charged. Assumes nothing.
use Prim.Native.Nat.{ℕ, ◌*◌, ◌≤◌}
use mathlib.Core.Path.{◌≡◌, refl, sym, ap, ◌∙◌}
use mathlib.Core.Bool.{true}
use native.Mathlib.Omega.{arith}
use lib.ListN.{length, set}
use lib.Seq.{length-take-le}
use Rattle.pool_rows.specs.Rows.{entry_room, byte_room}
use Rattle.pool.specs.Pool.{is_new}
use Rattle.std.specs.Prelude.{Err}
use Rattle.pool_rows.specs.FitLaws.{entry_room_lem, room_within}
use Rattle.pool.specs.PoolLaws.{old_bytes, old_entries}
use Rattle.pool_rows.specs.declared.Counts.{Counts}
use Rattle.desks.specs.Desks.{Shared, shared, fit_desks, entries_for, bytes_for}
use Rattle.desks.specs.FitLaws.{fit_of}
use Rattle.desk_add.specs.AddLaws.{unfit, on_parts, OnParts, settled}
use Rattle.desk_add.proofs.add_string.Goals as goal
use Rattle.desk_add.proofs.add_string.Goals.{After-add_string-added, After-room_for-room, Else-not-is_new}

-- the pool that is lent
abbrev lent : After-room_for-room → Shared
lent q =
    let a = q.args in
    shared a.bytes.now a.entries.now a.owners.now a.counts a.desks

fits : (q : After-room_for-room) → fit_desks (lent q) ≡ true
fits q = sym q.is_fit.ensures ∙ q.if-not-is_fit.false

entry_end : (q : After-room_for-room) → q.room_for-room.result.entries ≡ entries_for (entry_room (lent q).entries) q.args.which (lent q).desks
entry_end q =
    ap (λ (c : Counts). c.entries) q.room_for-room.ensures
    ∙ ap (λ (k : ℕ). entries_for k q.args.which (lent q).desks) q.room_of-entry_room.ensures

byte_end : (q : After-room_for-room) → q.room_for-room.result.bytes ≡ bytes_for (byte_room (lent q).bytes) q.args.which (lent q).desks
byte_end q =
    ap (λ (c : Counts). c.bytes) q.room_for-room.ensures
    ∙ ap (λ (k : ℕ). bytes_for k q.args.which (lent q).desks) q.room_of-byte_room.ensures

bytes_within : (q : After-room_for-room) → q.room_for-room.result.bytes ≤ length (lent q).bytes
bytes_within q = omega (arith, byte_end q, (room_within (length (lent q).bytes)).0)

entries_within : (q : After-room_for-room) → 2 * q.room_for-room.result.entries ≤ length (lent q).entries
entries_within q = entry_room_lem (lent q).entries _ (omega (arith, entry_end q))

said : (s : After-add_string-added)
    → OnParts s.args.string.now s.args.which (lent (goal.at.After-add_string-added s).After-room_for-room)
    s.room_for-room.result.bytes s.room_for-room.result.entries s.add_string-added.new.bytes s.add_string-added.new.entries
    s.add_string-added.result
said s =
    on_parts _ s.args.which (lent (goal.at.After-add_string-added s).After-room_for-room) _ _ _ _ _ (fits (goal.at.After-add_string-added s).After-room_for-room) (entry_end (goal.at.After-add_string-added s).After-room_for-room) (byte_end (goal.at.After-add_string-added s).After-room_for-room) s.add_string-added.ensures

pub returns-then-not-is_fit : goal.returns-then-not-is_fit
returns-then-not-is_fit c =
    let a = c.args in
    let no = sym c.is_fit.ensures ∙ c.if-not-is_fit.true in
    settled _ _ _ _ _ _ _ (ap Err c.refusal_of.ensures ∙ sym (unfit _ _ _ no)) refl refl (sym (old_bytes _ _ _ refl _)) (sym (old_entries _ _ _ refl _)) refl

pub slice_bounds-add_string-end : goal.slice_bounds-add_string-end
slice_bounds-add_string-end c = bytes_within (goal.at.slice_bounds-add_string-end c).After-room_for-room

pub slice_bounds-add_string-end-2 : goal.slice_bounds-add_string-end-2
slice_bounds-add_string-end-2 c = sym (length-take-le _ _ (bytes_within (goal.at.slice_bounds-add_string-end-2 c).After-room_for-room))

pub slice_bounds-add_string-end-3 : goal.slice_bounds-add_string-end-3
slice_bounds-add_string-end-3 c = entries_within (goal.at.slice_bounds-add_string-end-3 c).After-room_for-room

pub slice_bounds-add_string-end-4 : goal.slice_bounds-add_string-end-4
slice_bounds-add_string-end-4 c = sym (length-take-le _ _ (entries_within (goal.at.slice_bounds-add_string-end-4 c).After-room_for-room))

pub returns-then-not-is_new : goal.returns-then-not-is_new
returns-then-not-is_new c =
    let p = said (goal.at.returns-then-not-is_new c).After-add_string-added in
    let old = sym c.is_new.ensures ∙ c.if-not-is_new.true in
    settled _ _ _ _ _ _ _ p.answer (sym (p.counted.0 old)) (rw old) p.bytes_left p.entries_left (rw old)

-- the index is new
new : (k : Else-not-is_new)
    → is_new k.args.counts k.add_string-added.result ≡ true
new k = sym k.is_new.ensures ∙ k.if-not-is_new.false

pub bounds-owners-counts : goal.bounds-owners-counts
bounds-owners-counts c =
    omega (arith, (fit_of (lent (goal.at.bounds-owners-counts c).After-room_for-room) (fits (goal.at.bounds-owners-counts c).After-room_for-room)).owned, (said (goal.at.bounds-owners-counts c).After-add_string-added).entry_free (new (goal.at.bounds-owners-counts c).Else-not-is_new))

pub overflow_cast-long : goal.overflow_cast-long
overflow_cast-long c = omega (arith, (said (goal.at.overflow_cast-long c).After-add_string-added).small (new (goal.at.overflow_cast-long c).Else-not-is_new))

pub one_more-requires : goal.one_more-requires
one_more-requires c = (said (goal.at.one_more-requires c).After-add_string-added).countable (new (goal.at.one_more-requires c).Else-not-is_new)

pub charge_to-requires : goal.charge_to-requires
charge_to-requires c = (said (goal.at.charge_to-requires c).After-add_string-added).chargeable (new (goal.at.charge_to-requires c).Else-not-is_new)

pub returns : goal.returns
returns c =
    let p = said (goal.at.returns c).After-add_string-added in
    let e = new (goal.at.returns c).Else-not-is_new in
    settled _ _ _ _ _ _ _ p.answer (c.one_more.ensures ∙ sym (p.counted.1 e)) (c.charge_to.ensures ∙ rw e) p.bytes_left
    p.entries_left
    (ap (λ (o : ℕ). set (lent (goal.at.returns c).After-room_for-room).owners (lent (goal.at.returns c).After-room_for-room).counts.entries o) c.owner_of.ensures ∙ rw e)
