-- What `koto_compact_flat` returns and writes, from the inner call's answer.
-- Assumes nothing.
use Rattle.std.specs.Prelude.{ℕ, ◌≡◌, List}
use Rattle.compact.specs.Compact.{call, number_of}
use Rattle.desks.specs.Desks.{Shared}
use Rattle.koto_desks.specs.Words.{Leaves}

-- what it ensures: the answer's number, and every word that is lent
pub record CompactIs (first second : List ℕ) (s : Shared) (moved new_bytes new_entries newOwners newCounts newDesks newMoved : List ℕ) (r : ℕ)
    : Type 0 where
  pub number : r ≡ number_of (call first second s moved).answer
  pub moved_left : newMoved ≡ (call first second s moved).moved
  pub left : Leaves (call first second s moved).state new_bytes new_entries newOwners newCounts newDesks
