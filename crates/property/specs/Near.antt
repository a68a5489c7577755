-- Whether a run has a code point, by tests that look at that run and the next one alone (`has_code` of `TableLaws` has what they settle).
-- No public contract cites it.
-- Assumes nothing.
use Rattle.std.specs.Prelude.{ℕ, ◌+◌, List, Bool, ◌&&◌, ◌||◌, ltb, leb, eqb, length}
use Rattle.property.specs.Table.{start_at}

-- the run k has the code point c, by its own start and the next one's
unfoldable pub has_code : List ℕ → ℕ → ℕ → Bool
has_code table c k =
    ltb k (length table) && (leb (start_at table k) c && (eqb (k + 1) (length table) || ltb c (start_at table (k + 1))))
