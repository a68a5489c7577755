-- A number in a range, both ends counted, by the two tests that code makes.
-- Assumes nothing.
use Rattle.std.specs.Prelude.{ℕ, Bool, false, ltb, leb}
use Rattle.base.specs.Pick.{pick}

-- lo ≤ b ≤ hi
unfoldable pub inside : ℕ → ℕ → ℕ → Bool
inside b lo hi = pick (ltb b lo) false (leb b hi)
