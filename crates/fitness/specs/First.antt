-- Document 01, "Refusal numbers": "first bad run", "first bad byte". The first of some numbers at which a test fails.
-- Assumes nothing.
use Rattle.std.specs.Prelude.{ℕ, zero, suc, Bool}
use Rattle.base.specs.Pick.{pick}

-- the first of the n numbers from i on at which the test fails; the number after them where it fails at none
unfoldable pub first_bad : (ℕ → Bool) → ℕ → ℕ → ℕ
first_bad ok i zero = i
first_bad ok i (suc n) = pick (ok i) (first_bad ok (suc i) n) i
