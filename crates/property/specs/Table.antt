-- Document 01, "The property table": what a table says of a code point. A table is the list of its numbers.
-- A run has the code points from its start to the next run's. The look-up is defined for every list, as the last run that starts at most
-- at the code point, which is the only run that has it (`one_run` of `TableLaws`).
-- Assumes nothing.
use Rattle.std.specs.Prelude.{ℕ, ◌<◌, ◌≤◌, ◌≡◌, List, [], ◌∷◌, ltb, length, get_or}
use Rattle.base.specs.Pick.{pick}
use Rattle.property.specs.Parts.{start_of, properties_of}

-- the properties of the last run that starts at most at the code point c; p where there is none
unfoldable pub last_from : ℕ → List ℕ → ℕ → ℕ
last_from p [] c = p
last_from p (number ∷ numbers) c = last_from (pick (ltb c (start_of number)) p (properties_of number)) numbers c

-- the properties of a code point
abbrev pub properties_at : List ℕ → ℕ → ℕ
properties_at table c = last_from 0 table c

-- the first code point of the run i
abbrev pub start_at : List ℕ → ℕ → ℕ
start_at table i = start_of (get_or table i 0)

-- the run k has the code point c: it starts at most there, and every later run starts above it
pub record HasRun (table : List ℕ) (c k : ℕ) : Type 0 where
  pub within : k < length table
  pub low : start_at table k ≤ c
  pub above : (j : ℕ) → k < j → j < length table → c < start_at table j

-- what halving asks of a table: there is a run, the first starts at 0, and starts rise strictly
pub record Rises (table : List ℕ) : Type 0 where
  pub some : 0 < length table
  pub first : start_at table 0 ≡ 0
  pub rising : (i j : ℕ) → i < j → j < length table → start_at table i < start_at table j
