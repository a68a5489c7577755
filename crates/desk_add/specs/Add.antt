-- Document 02, C-12: an addition for a desk. A string that is there costs nobody; a new one is charged to the desk that adds it. Refusals 3 or 15,
-- 8, 13 in this order.
-- Assumes nothing.
use Rattle.std.specs.Prelude.{ℕ, ◌+◌, ◌≡◌, List, ltb, length, set, Result, Err}
use Rattle.base.specs.Pick.{pick}
use Rattle.utf8.specs.Chars.{check_from}
use Rattle.pool_rows.specs.Rows.{strings_of, index_of, byte_room, entry_room}
use Rattle.pool.specs.Pool.{one_more, indexed, placed, on_utf8, is_new, bytes_after, entries_after, counts_after}
use Rattle.pool_rows.specs.declared.Counts.{Counts}
use Rattle.pool.specs.declared.Added.{Added}
use Rattle.pool.specs.declared.AddError.{AddError}
use Rattle.pool.specs.declared.AddError.TheVariants.{BadState, PoolFull}
use Rattle.desks.specs.Desks.{Shared, desk_of, other, owner_of, left, common_left, fit_desks, entries_for, bytes_for}
use Rattle.desks.specs.declared.Desk.{Desk}
use Rattle.desks.specs.declared.Desks.{Desks}
use Rattle.desks.specs.declared.Which.{Which}
use Rattle.desks.specs.declared.Which.TheVariants.{First, Second}
use Rattle.desk_add.specs.declared.AddedFor.{AddedFor}

-- the answer: that of a pool with so much room as the desk may fill (`PromiseLaws.answer_in_words` has 13 in the document's words)
unfoldable pub added_for : Which → Shared → List ℕ → Result Added AddError
added_for which s string =
    on_utf8 (check_from 0 string)
    (pick (fit_desks s)
    (placed (length string) (index_of string (strings_of s.bytes s.entries s.counts.entries)) s.counts
    (entries_for (entry_room s.entries) which s.desks) (bytes_for (byte_room s.bytes) which s.desks))
    (Err BadState))

-- a desk charged with one entry more, of so many bytes
abbrev pub charged_more : Desk → ℕ → Desk
charged_more desk long = record { guaranteed = desk.guaranteed; charged = one_more desk.charged long }

abbrev pub with_more : Which → Desks → ℕ → Desks
with_more First desks long = record { first = charged_more desks.first long; second = desks.second }
with_more Second desks long = record { first = desks.first; second = charged_more desks.second long }

-- the desks after an answer: only a new string is charged, and to the desk that added it
abbrev pub desks_after : List ℕ → Counts → Which → Result Added AddError → Desks → Desks
desks_after string counts which r desks = pick (is_new counts r) (with_more which desks (length string)) desks

-- the row of owners after an answer: only a new string has a new owner
abbrev pub owners_after : Counts → Which → Result Added AddError → List ℕ → List ℕ
owners_after counts which r owners = pick (is_new counts r) (set owners counts.entries (owner_of which)) owners

-- the shared pool after an answer
abbrev pub shared_after : Which → Shared → List ℕ → Result Added AddError → Shared
shared_after which s string r =
    record {
      bytes = bytes_after string s.counts r s.bytes;
      entries = entries_after string s.counts r s.entries;
      owners = owners_after s.counts which r s.owners;
      counts = counts_after s.counts r;
      desks = desks_after string s.counts which r s.desks;
    }

-- and after an addition
abbrev pub add_for : Which → Shared → List ℕ → Shared
add_for which s string = shared_after which s string (added_for which s string)

-- what `add_string` ensures: its answer, and the counts, the desks and every word of the rows after it
pub record AddsFor (string : List ℕ) (which : Which) (s : Shared) (new_bytes new_entries newOwners : List ℕ) (r : AddedFor) : Type 0 where
  pub answer : r.added ≡ added_for which s string
  pub counts_left : r.counts ≡ (add_for which s string).counts
  pub desks_left : r.desks ≡ (add_for which s string).desks
  pub bytes_left : new_bytes ≡ (add_for which s string).bytes
  pub entries_left : new_entries ≡ (add_for which s string).entries
  pub owners_left : newOwners ≡ (add_for which s string).owners

-- ---- the answer in document 02's words

-- what is free for a desk, in entries and in bytes: what is left of the common room, and of its own guarantee
abbrev pub free_entries : Which → Shared → ℕ
free_entries which s =
    let mine = desk_of which s.desks in
    let others = desk_of (other which) s.desks in
    common_left (entry_room s.entries) mine.guaranteed.entries mine.charged.entries others.guaranteed.entries
    others.charged.entries
    + left mine.guaranteed.entries mine.charged.entries

abbrev pub free_bytes : Which → Shared → ℕ
free_bytes which s =
    let mine = desk_of which s.desks in
    let others = desk_of (other which) s.desks in
    common_left (byte_room s.bytes) mine.guaranteed.bytes mine.charged.bytes others.guaranteed.bytes others.charged.bytes
    + left mine.guaranteed.bytes mine.charged.bytes

-- the answer for a string of so many bytes that was found at an index, where so many entries and bytes are free
abbrev pub in_words : ℕ → ℕ → Counts → ℕ → ℕ → Result Added AddError
in_words long found counts entries bytes =
    pick (ltb found counts.entries) (indexed found counts)
    (pick (ltb entries 1) (Err PoolFull)
    (pick (ltb bytes long) (Err PoolFull)
    (indexed counts.entries (one_more counts long))))
