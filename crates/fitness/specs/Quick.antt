-- What the quick tests of a table ask (`QuickLaws` has what they settle). No public contract cites them.
-- Assumes nothing.
use Rattle.std.specs.Prelude.{ℕ, List, Bool, ◌&&◌, nat_eq, ltb, leb, length, get_or, take}
use Rattle.std.specs.Cmp.Lexicographic.{pointwise}
use Rattle.property.specs.Parts.{properties_of}
use Rattle.property.specs.Table.{start_at}
use Rattle.fitness.specs.Small.{small_table}
use Rattle.fitness.specs.Fit.{start_ok, properties_ok, ascii_count}

-- the run rules at the run i, but for its start's bound
unfoldable pub follows_ok : List ℕ → ℕ → Bool
follows_ok table i = start_ok table i && properties_ok (properties_of (get_or table i 0))

-- the runs of the small table that start below 128
abbrev pub small_count : ℕ
small_count = 15

-- the table begins with these, and the run after them starts at 128 or later
unfoldable pub begins_as_small : List ℕ → Bool
begins_as_small table = ltb small_count (length table) && (pointwise nat_eq (take small_count table) (take small_count small_table) && leb ascii_count (start_at table small_count))
