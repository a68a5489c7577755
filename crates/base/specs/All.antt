-- A test at each of some numbers.
-- Assumes nothing.
use Rattle.std.specs.Prelude.{ℕ, zero, suc, Bool, true, ◌&&◌}

-- the test holds at each of the numbers below n
unfoldable pub all_good : (ℕ → Bool) → ℕ → Bool
all_good ok zero = true
all_good ok (suc n) = all_good ok n && ok n
