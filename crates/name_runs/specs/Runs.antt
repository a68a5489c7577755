-- Document 01, "The property table": a run with its numbers at hand, and a character above 127. No public contract cites these.
-- Assumes nothing.
use Rattle.std.specs.Prelude.{ℕ, ◌+◌, ◌≤◌, ◌<◌, ◌≡◌, List, eqb, length, get_or, Ok}
use Rattle.base.specs.Pick.{pick}
use Rattle.utf8.specs.Read.{read_at}
use Rattle.property.specs.Parts.{properties_of}
use Rattle.property.specs.Table.{properties_at, start_at}
use Rattle.name_runs.specs.declared.Run.{Run}
use Rattle.name_runs.specs.declared.Point.{Point}

-- the first code point behind the run k: the next one's first, or the first that is none
unfoldable pub over_at : List ℕ → ℕ → ℕ
over_at table k = pick (eqb (k + 1) (length table)) 0x110000 (start_at table (k + 1))

-- the run of this number
abbrev pub run_at : List ℕ → ℕ → Run
run_at table k = record { number = k; low = start_at table k; over = over_at table k; properties = properties_of (get_or table k 0) }

-- the properties are those of every code point from the first on and before the one behind
pub record RunIs (table : List ℕ) (r : Run) : Type 0 where
  pub same : (c : ℕ) → r.low ≤ c → c < r.over → r.properties ≡ properties_at table c

-- and of this one
pub record RunHas (table : List ℕ) (code : ℕ) (r : Run) : Type 0 where
  pub runs : RunIs table r
  pub has : r.properties ≡ properties_at table code

-- the character stands at the place i of s
abbrev pub PointIs : List ℕ → ℕ → Point → Type 0
PointIs s i p = read_at s i ≡ Ok (p.code, p.len)
