-- The parts of a name that stand at a place: letters, digits and the underscore.
-- Assumes nothing.
use Rattle.std.specs.Prelude.{ℕ, ◌<◌, ◌≡◌, false, List, length, get_or}
use Rattle.fitness.specs.Ascii.{is_name_part}
use Rattle.skip.specs.Skip.{Passed}

-- the bytes of s from i on and before j are parts of a name, and at j there is none
pub record NameRun (s : List ℕ) (i j : ℕ) : Type 0 where
  pub passed : Passed is_name_part s i j
  pub over : j < length s → is_name_part (get_or s j 0) ≡ false
