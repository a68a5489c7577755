-- The reading without a pool: `parse` with two places in the place of a pool, for the first string and the last one after it. What that has
-- to do with a pool is `parse_two_stages` of `ReadLaws`.
-- And what one turn of the code's loop does, at a byte place of the format string.
-- Assumes nothing.
use Rattle.std.specs.Prelude.{ℕ, suc, ◌+◌, ◌≤◌, ◌≡◌, List, ◌∷◌, length, take, drop, Option, Some, None, Ok}
use Rattle.base.specs.Refusal.{format_most}
use Rattle.utf8.specs.Encode.{encode_all, WellFormed}
use Rattle.utf8.specs.Read.{read_at}
use Rattle.format_options.specs.declared.Part.{Part}
use Rattle.format_number.specs.Number.{peeked}
use Rattle.format_arms.specs.Arms.{alignment, arm_of}
use Rattle.format_state.specs.State.{nothing_added, keep, goes_to, goes_filled, fails_with}
use Rattle.format_state.specs.declared.Strings.{Strings}
use Rattle.format_state.specs.declared.Parsing.{Parsing}
use Rattle.format.specs.Parse as parse
use Rattle.format.specs.declared.FormatRead.{FormatRead}

-- the answer, of what `parse` comes to
abbrev pub reading_of : parse.OnePass Strings → FormatRead
reading_of r = record { options = r.options; outcome = r.outcome; added = r.pool }

-- the reading of a format string with these characters
unfoldable pub read_format : (ℕ → ℕ) → ℕ → List ℕ → FormatRead
read_format look edition cs = reading_of (parse.parse_with keep look edition nothing_added cs)

-- the strings of a reading added to a pool, one after the other
abbrev pub add_both : {P : Type 0} → (P → Part → P) → P → Strings → P
add_both add pool a = parse.add_fill add (parse.add_fill add pool a.first) a.second

-- the last of them
abbrev pub last_by : Option Part → Option Part → Option Part
last_by (Some part) first = Some part
last_by None first = first

abbrev pub last_of : Strings → Option Part
last_of a = last_by a.second a.first

-- ---- a turn

-- the reading ends as it stands
abbrev pub ended : Parsing → FormatRead
ended p = record { options = p.result; outcome = p.outcome; added = p.added }

-- the arm of a cluster, which ends before the byte `end`
abbrev pub cluster_to : Parsing → ℕ → Parsing
cluster_to p end = goes_filled p p.result alignment end end

-- what a body comes to, where cs are the characters from `p.at` on and the first of them is its own
abbrev pub turn_of : Parsing → List ℕ → parse.Body → Parsing
turn_of p cs (parse.Goes result position k fill) =
    goes_to result position (p.at + length (encode_all (take (suc k) cs))) (parse.add_fill keep p.added fill)
turn_of p cs (parse.Fails e) = fails_with p e

-- the body for the character c and those after it
abbrev pub body_at : (ℕ → ℕ) → ℕ → Parsing → ℕ → List ℕ → parse.Body
body_at look edition p c cs = parse.body_of look edition p.at p.result c cs (arm_of c (peeked cs) p.position)

-- the turn for the character c and those after it
abbrev pub turn_at : (ℕ → ℕ) → ℕ → Parsing → ℕ → List ℕ → Parsing
turn_at look edition p c cs = turn_of p (c ∷ cs) (body_at look edition p c cs)

-- the character c, of n bytes, stands at the place i of s, and nothing ill-formed from it on
pub record Here (s : List ℕ) (i c n : ℕ) : Type 0 where
  pub small : length s ≤ format_most
  pub well : WellFormed (drop i s)
  pub found : read_at s i ≡ Ok (c, n)
