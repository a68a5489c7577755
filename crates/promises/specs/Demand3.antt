-- Demand 3, bounded and whole, about the records of demand 2's reading alone (document 01, "One answer to each call"). A source of n bytes
-- has at most n + n/3 records; leaving out a last Error that stands still, byte ranges and spans join from zero without a gap; and a
-- reading that ends covers the source, or closes on an Error that cuts a longer character.
-- Assumes nothing.
use Rattle.std.specs.Prelude.{ℕ, ◌+◌, ◌-◌, ◌/◌, ◌<◌, ◌≤◌, ◌≡◌, ◌⊎◌, List, [], ◌∷◌, ◌++◌, length, take}
use Rattle.rows.specs.declared.Row.{Row}
use Rattle.lexer.specs.Fine.{Cuts}
use Rattle.reading.specs.Reading.{Stop, ended, stuck, deep, Reading}
use Rattle.reading.specs.Scan.{end_of}

-- n + n/3, rounded down
abbrev pub most_records : ℕ → ℕ
most_records n = n + n / 3

-- a record begins where the one before it ended, and does not end before it begins
pub record Joined (byte line column : ℕ) (r : Row) : Type 0 where
  pub from_byte : r.start ≡ byte
  pub onward : r.start ≤ r.end
  pub from_line : r.start_line ≡ line
  pub from_column : r.start_column ≡ column

-- records that join without a gap, from this byte, line and column on
unfoldable pub Chained : ℕ → ℕ → ℕ → List Row → Type 0
Chained byte line column [] = Unit {0}
Chained byte line column (r ∷ rows) = Joined byte line column r × Chained r.end r.end_line r.end_column rows

-- without a last record that stands still
abbrev pub without : Stop → List Row → List Row
without ended rows = rows
without stuck rows = take (length rows - 1) rows
without deep rows = rows

abbrev pub moving : Reading → List Row
moving r = without r.stop r.rows

-- the last record is an Error of one byte at the first byte of a character of two bytes or more
pub record ClosesOnCut (s : List ℕ) (rows : List Row) : Type 0 where
  pub before : List Row
  pub last : Row
  pub parts : rows ≡ before ++ (last ∷ [])
  pub cuts : Cuts s last.start last.kind last.end

-- demand 3 of the reading r of a source s
pub record Whole (s : List ℕ) (r : Reading) : Type 0 where
  pub few : length r.rows ≤ most_records (length s)
  pub chain : Chained 0 0 0 (moving r)
  pub covers : r.stop ≡ ended → (end_of 0 r.rows ≡ length s) ⊎ ClosesOnCut s r.rows
  -- a token that would push a 65th mode would have had room for its record
  pub one_more_lem : r.stop ≡ deep → length r.rows < most_records (length s)
