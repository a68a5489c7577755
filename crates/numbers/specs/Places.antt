-- Where the functions of numbers and names stand in a source, at the start of a character or at the end, and where they lead.
-- Assumes nothing.
use Rattle.std.specs.Prelude.{ℕ, ◌≤◌, ◌<◌, List, length, drop}
use Rattle.base.specs.Refusal.{source_most}
use Rattle.position.specs.declared.Reach.{Reach}
use Rattle.utf8.specs.Encode.{WellFormed}
use Rattle.text.specs.Stands.{Stands}

-- i is a place of the source s, and what stands from there on is well formed
pub record PlaceIn (s : List ℕ) (i : ℕ) : Type 0 where
  pub small : length s ≤ source_most
  pub inside : i ≤ length s
  pub well : WellFormed (drop i s)

-- q stands in s, further on than r
pub record GoesOn (s : List ℕ) (r q : Reach) : Type 0 where
  pub stands : Stands s q
  pub on : r.byte.0 < q.byte.0
