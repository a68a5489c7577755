-- Document 02, C-13: the call `compact`. What either desk marked stays (`marks/specs/Marks`), and moves together in order (`slide/specs/Slide`);
-- each desk is charged anew for what it added.
-- Assumes nothing.
use Rattle.std.specs.Prelude.{ℕ, ◌≡◌, List, Bool, length, Result, Ok, Err}
use Rattle.base.specs.Pick.{pick}
use Rattle.base.specs.Refusal.{none, bad_state, bad_mark}
use Rattle.pool_rows.specs.declared.Counts.{Counts}
use Rattle.desks.specs.Desks.{Shared, owner_of, held_by, fit_desks}
use Rattle.desks.specs.declared.Desks.{Desks}
use Rattle.desks.specs.declared.Which.TheVariants.{First, Second}
use Rattle.slide.specs.Slide.{kept_strings, kept_owners, translated, joined, laid_out, counts_of, headed}
use Rattle.marks.specs.Marks.{is_marked, good_marks}
use Rattle.compact.specs.declared.Kept.{Kept}
use Rattle.compact.specs.declared.CompactError.{CompactError}
use Rattle.compact.specs.declared.CompactError.TheVariants.{BadMark, BadState}

-- ---- the call

-- the desks, charged what their owners hold of the rows
abbrev pub recharged : Desks → Counts → Counts → Desks
recharged desks one two =
    record {
      first = record { guaranteed = desks.first.guaranteed; charged = one };
      second = record { guaranteed = desks.second.guaranteed; charged = two };
    }

abbrev pub desks_then : List ℕ → List ℕ → ℕ → Desks → Desks
desks_then entries owners n desks =
    recharged desks (held_by entries owners (owner_of First) n) (held_by entries owners (owner_of Second) n)

-- the state after a compaction that is not refused
abbrev pub compacted : (ℕ → Bool) → Shared → Shared
compacted keep s =
    let strings = kept_strings keep s.bytes s.entries s.counts.entries in
    let entries = headed (laid_out 0 strings) s.entries in
    let owners = headed (kept_owners keep s.owners s.counts.entries) s.owners in
    record {
      bytes = headed (joined strings) s.bytes;
      entries = entries;
      owners = owners;
      counts = counts_of strings;
      desks = desks_then entries owners (length strings) s.desks;
    }

-- what a call comes to: refusal 8, then 20, and then the compaction; a refusal leaves the pool and the row
pub record Comes : Type 0 where
  pub answer : Result Kept CompactError
  pub state : Shared
  pub moved : List ℕ

abbrev pub comes : Result Kept CompactError → Shared → List ℕ → Comes
comes r s moved = record { answer = r; state = s; moved = moved }

-- what is kept, with the counts and the desks after it
abbrev pub keeping : Counts → Desks → Result Kept CompactError
keeping counts desks = Ok (record { counts = counts; desks = desks })

unfoldable pub call : List ℕ → List ℕ → Shared → List ℕ → Comes
call first second s moved =
    pick (fit_desks s)
    (pick (good_marks first second moved s.counts.entries)
    (comes (keeping (compacted (is_marked first second) s).counts (compacted (is_marked first second) s).desks) (compacted (is_marked first second) s)
    (headed (translated (is_marked first second) s.counts.entries) moved))
    (comes (Err BadMark) s moved))
    (comes (Err BadState) s moved)

-- what `compact` ensures: its answer, with the counts and the desks after it, and every word of the rows
pub record Compacts (first second : List ℕ) (s : Shared) (moved new_bytes new_entries newOwners newMoved : List ℕ) (r : Result Kept CompactError) : Type 0 where
  pub answer_is : r ≡ (call first second s moved).answer
  pub bytes_left : new_bytes ≡ (call first second s moved).state.bytes
  pub entries_left : new_entries ≡ (call first second s moved).state.entries
  pub owners_left : newOwners ≡ (call first second s moved).state.owners
  pub moved_left : newMoved ≡ (call first second s moved).moved

-- ---- the documents' numbers of an answer, and the counts and the desks after it, which a refusal leaves

abbrev pub counts_after : Result Kept CompactError → Counts → Counts
counts_after (Ok kept) had = kept.counts
counts_after (Err e) had = had

abbrev pub desks_after : Result Kept CompactError → Desks → Desks
desks_after (Ok kept) had = kept.desks
desks_after (Err e) had = had

abbrev pub number_of : Result Kept CompactError → ℕ
number_of (Ok kept) = none
number_of (Err BadMark) = bad_mark
number_of (Err BadState) = bad_state
