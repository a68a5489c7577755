-- The counts and the desks as a caller in C holds them: koto_counts as two numbers, and koto_desks as eight, of the first desk what it is
-- guaranteed and what it is charged, each in entries and bytes, and then of the second.
-- Assumes nothing.
use Rattle.std.specs.Prelude.{ℕ, ◌≡◌, List, [], ◌∷◌, Bool, eqb, ltb, get_or}
use Rattle.base.specs.Pick.{pick}
use Rattle.pool_rows.specs.declared.Counts.{Counts}
use Rattle.desks.specs.Desks.{Shared, shared}
use Rattle.desks.specs.declared.Desks.{Desks}
use Rattle.desks.specs.declared.Which.{Which}
use Rattle.desks.specs.declared.Which.TheVariants.{First, Second}

-- a number that is one of the two desks
abbrev pub is_desk : ℕ → Bool
is_desk desk = ltb desk 2

abbrev pub which_of : ℕ → Which
which_of desk = pick (eqb desk 0) First Second

-- counts, from the number at an index on
abbrev pub counts_at : List ℕ → ℕ → ℕ → Counts
counts_at words i j = record { entries = get_or words i 0; bytes = get_or words j 0 }

abbrev pub counts_in : List ℕ → Counts
counts_in words = counts_at words 0 1

abbrev pub desks_in : List ℕ → Desks
desks_in words =
    record {
      first = record { guaranteed = counts_at words 0 1; charged = counts_at words 2 3 };
      second = record { guaranteed = counts_at words 4 5; charged = counts_at words 6 7 };
    }

abbrev pub count_words : Counts → List ℕ
count_words counts = counts.entries ∷ counts.bytes ∷ []

abbrev pub desk_words : Desks → List ℕ
desk_words desks =
    desks.first.guaranteed.entries ∷ desks.first.guaranteed.bytes ∷ desks.first.charged.entries ∷ desks.first.charged.bytes
    ∷ desks.second.guaranteed.entries ∷ desks.second.guaranteed.bytes ∷ desks.second.charged.entries ∷ desks.second.charged.bytes
    ∷ []

-- the shared pool that is lent
abbrev pub lent_by : List ℕ → List ℕ → List ℕ → List ℕ → List ℕ → Shared
lent_by bytes entries owners counts desks = shared bytes entries owners (counts_in counts) (desks_in desks)

-- every word of a shared pool after a call
pub record Leaves (t : Shared) (bytes entries owners counts desks : List ℕ) : Type 0 where
  pub bytes_left : bytes ≡ t.bytes
  pub entries_left : entries ≡ t.entries
  pub owners_left : owners ≡ t.owners
  pub counts_left : counts ≡ count_words t.counts
  pub desks_left : desks ≡ desk_words t.desks
