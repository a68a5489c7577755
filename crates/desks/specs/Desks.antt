-- Document 02, C-12: two desks share one pool. Each has a guaranteed number of entries and bytes; the rest is common. A row of owners says for
-- each entry which desk added it, as 0 or 1, so that what a desk is charged is what its entries hold.
-- Assumes nothing.
use Rattle.std.specs.Prelude.{ℕ, zero, suc, ◌+◌, ◌-◌, ◌≡◌, List, Bool, true, false, eqb, ltb, length, get_or}
use Rattle.base.specs.Pick.{pick}
use Rattle.pool_rows.specs.Rows.{length_of, byte_room, entry_room, fit_pool}
use Rattle.pool.specs.Pool.{one_more}
use Rattle.pool_rows.specs.declared.Counts.{Counts}
use Rattle.desks.specs.declared.Desk.{Desk}
use Rattle.desks.specs.declared.Desks.{Desks}
use Rattle.desks.specs.declared.Which.{Which}
use Rattle.desks.specs.declared.Which.TheVariants.{First, Second}

-- a pool that two desks share: its rows, what is in use of them, who added each entry, and both desks
pub record Shared : Type 0 where
  pub bytes : List ℕ
  pub entries : List ℕ
  pub owners : List ℕ
  pub counts : Counts
  pub desks : Desks

-- the one that is lent
abbrev pub shared : List ℕ → List ℕ → List ℕ → Counts → Desks → Shared
shared bytes entries owners counts desks = record { bytes = bytes; entries = entries; owners = owners; counts = counts; desks = desks }

-- ---- desks

abbrev pub desk_of : Which → Desks → Desk
desk_of First desks = desks.first
desk_of Second desks = desks.second

abbrev pub other : Which → Which
other First = Second
other Second = First

-- the number of a desk in the row of owners
abbrev pub owner_of : Which → ℕ
owner_of First = 0
owner_of Second = 1

-- what the first n entries hold that an owner added
unfoldable pub held_by : List ℕ → List ℕ → ℕ → ℕ → Counts
held_by entries owners owner zero = record { entries = 0; bytes = 0 }
held_by entries owners owner (suc n) =
    pick (eqb (get_or owners n 0) owner) (one_more (held_by entries owners owner n) (length_of entries n)) (held_by entries owners owner n)

-- ---- room, in entries or in bytes: g and h are the desks' guarantees, c and d their charges

-- what is left of a guarantee
abbrev pub left : ℕ → ℕ → ℕ
left guaranteed charged = guaranteed - charged

-- what is held beyond it
abbrev pub beyond : ℕ → ℕ → ℕ
beyond guaranteed charged = charged - guaranteed

-- the common room: what no desk is guaranteed
abbrev pub common_room : ℕ → ℕ → ℕ → ℕ
common_room room g h = room - (g + h)

-- what is left of it
abbrev pub common_left : ℕ → ℕ → ℕ → ℕ → ℕ → ℕ
common_left room g c h d = common_room room g h - (beyond g c + beyond h d)

-- the guarantees together do not exceed the room, the charges add up to the count, and what both hold beyond their guarantees does not exceed
-- the common room
unfoldable pub shared_out : ℕ → ℕ → ℕ → ℕ → ℕ → ℕ → Bool
shared_out room count g c h d =
    pick (ltb room (g + h)) false
    (pick (eqb (c + d) count)
    (pick (ltb (common_room room g h) (beyond g c + beyond h d)) false true)
    false)

-- ---- which states are fit: refusal 8

-- whether two counts are the same
abbrev pub same_counts : Counts → Counts → Bool
same_counts a b = pick (eqb a.entries b.entries) (eqb a.bytes b.bytes) false

-- a desk is charged what its entries hold
abbrev pub charged_right : Which → Shared → Bool
charged_right which s =
    same_counts (desk_of which s.desks).charged (held_by s.entries s.owners (owner_of which) s.counts.entries)

-- the desks share the room for entries, and the room for bytes
abbrev pub entries_shared : ℕ → Counts → Desks → Bool
entries_shared room counts desks =
    shared_out room counts.entries desks.first.guaranteed.entries desks.first.charged.entries
    desks.second.guaranteed.entries desks.second.charged.entries

abbrev pub bytes_shared : ℕ → Counts → Desks → Bool
bytes_shared room counts desks =
    shared_out room counts.bytes desks.first.guaranteed.bytes desks.first.charged.bytes
    desks.second.guaranteed.bytes desks.second.charged.bytes

-- a fit pool, with an owner for each entry that has room, whose desks share it
unfoldable pub fit_desks : Shared → Bool
fit_desks s =
    pick (fit_pool s.bytes s.entries s.counts)
    (pick (ltb (length s.owners) (entry_room s.entries)) false
    (pick (charged_right First s)
    (pick (charged_right Second s)
    (pick (entries_shared (entry_room s.entries) s.counts s.desks)
    (bytes_shared (byte_room s.bytes) s.counts s.desks)
    false) false) false)) false

abbrev pub Fits : Shared → Type 0
Fits s = fit_desks s ≡ true

-- ---- how far a desk may fill the pool

-- up to what is left of the other's guarantee. `RoomLaws.in_words_lem` says that this is what is in use, what is left of the common room and what is
-- left of the desk's own guarantee, together
abbrev pub entries_for : ℕ → Which → Desks → ℕ
entries_for room which desks = room - left (desk_of (other which) desks).guaranteed.entries (desk_of (other which) desks).charged.entries

abbrev pub bytes_for : ℕ → Which → Desks → ℕ
bytes_for room which desks = room - left (desk_of (other which) desks).guaranteed.bytes (desk_of (other which) desks).charged.bytes

-- both, in a pool with room for so many entries and bytes
abbrev pub room_for : ℕ → ℕ → Which → Desks → Counts
room_for forEntries forBytes which desks = record { entries = entries_for forEntries which desks; bytes = bytes_for forBytes which desks }
