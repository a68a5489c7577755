-- The search of the run that has a code point, by halving: what is kept. Assumes nothing.
use Prim.Native.Nat.{ℕ, ◌<◌, ◌≤◌}
use mathlib.Core.List.{List}
use lib.ListN.{length}
use Rattle.property.specs.Table.{start_at}

-- the run sought is from lo on and before hi
pub record Between (table : List ℕ) (code lo hi : ℕ) : Type 0 where
  pub order : lo < hi
  pub within : hi ≤ length table
  pub low : start_at table lo ≤ code
  pub above : (k : ℕ) → hi ≤ k → k < length table → code < start_at table k
