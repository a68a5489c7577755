-- What holds wherever reading stands in a source: at the start of a character, within the source, with line and column bounded by the
-- bytes before it (a character has at least one byte and at most three columns).
-- Assumes nothing.
use Rattle.std.specs.Prelude.{ℕ, ◌+◌, ◌*◌, ◌≤◌, ◌<◌, ◌≡◌, List, ◌++◌, length, drop}
use Rattle.base.specs.Refusal.{source_most}
use Rattle.position.specs.declared.Reach.{Reach}
use Rattle.utf8.specs.Chars.{chars}
use Rattle.utf8.specs.Encode.{WellFormed}
use Rattle.text.specs.Count.{bytes_of}
use Rattle.text.specs.Follow.{turn_at, follow}
use Rattle.text.specs.declared.Turn.{Turn}
use Rattle.text.specs.declared.Turn.TheVariants.{Pass, Line, Close, Stuck}

-- the characters that are left where reading has come to r
abbrev pub chars_from : List ℕ → Reach → List ℕ
chars_from s r = chars (drop r.byte.0 s)

pub record Stands (s : List ℕ) (r : Reach) : Type 0 where
  pub small : length s ≤ source_most
  pub inside : r.byte.0 ≤ length s
  pub well : WellFormed (drop r.byte.0 s)
  pub lines : r.position.line ≤ r.byte.0
  pub columns : r.position.column.0 ≤ 3 * r.byte.0

-- the b bytes from i on are whole characters of s, at least one
pub record Passes (s : List ℕ) (i b : ℕ) : Type 0 where
  pub some : 0 < b
  pub fits : i + b ≤ length s
  pub well : WellFormed (drop (i + b) s)
  pub points : List ℕ
  pub bytes : bytes_of points ≡ b
  pub split : chars (drop i s) ≡ points ++ chars (drop (i + b) s)

-- a character ends b bytes after i, or b is 0 and none is passed
pub record Lands (s : List ℕ) (i b : ℕ) : Type 0 where
  pub fits : i + b ≤ length s
  pub well : WellFormed (drop (i + b) s)

-- a turn at i stays within s, and passes no more columns than its bytes allow
abbrev pub Within : List ℕ → ℕ → Turn → Type 0
Within s i (Pass b w) = Passes s i b × (w ≤ 3 * b)
Within s i (Line b) = Passes s i b
Within s i (Close b w) = Lands s i b × (w ≤ 3 * b)
Within s i Stuck = Unit {0}

-- wherever a character stands in s, the turn there stays within s
abbrev pub Safe : (ℕ → List ℕ → Turn) → List ℕ → Type 0
Safe turn s = (i : ℕ) → i < length s → WellFormed (drop i s) → Within s i (turn_at turn (chars (drop i s)))

-- what a loop over the turns keeps: what is found from here is what was to be found from the start
pub record Going (turn : ℕ → List ℕ → Turn) (s : List ℕ) (start r : Reach) (i : ℕ) : Type 0 where
  pub at : i ≡ r.byte.0
  pub stands : Stands s r
  pub on : start.byte.0 ≤ r.byte.0
  pub same : follow turn r (chars (drop r.byte.0 s)) ≡ follow turn start (chars (drop start.byte.0 s))
