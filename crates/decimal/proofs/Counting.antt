-- What the loop of `digit_count` keeps.
-- Assumes nothing.
use Prim.Native.Nat.{ℕ, ◌+◌, ◌/◌, ◌≤◌}
use native.Mathlib.Omega.{arith}
use mathlib.Core.Path.{◌≡◌, ap}
use lib.ListN.{length}
use Rattle.decimal.specs.Decimal.{digits}
use Rattle.decimal.specs.DecimalLaws.{digits_small, one_more_lem, few_digits}

-- count digits more than those of rest, less one
pub record Counting (n count rest : ℕ) : Type 0 where
  pub sum : count + length (digits rest) ≡ length (digits n) + 1
  pub most : count ≤ n + 2
  pub under : rest ≤ n

pub counting_start : (n : ℕ) → Counting n 1 n
counting_start n = record { sum = omega arith; most = omega arith; under = omega arith }

pub counting_more : (n count rest : ℕ) → Counting n count rest → 10 ≤ rest → Counting n (count + 1) (rest / 10)
counting_more n count rest v h =
    record { sum = omega (arith, v.sum, one_more_lem rest h); most = omega (arith, v.sum, few_digits n, one_more_lem rest h); under = omega (arith, v.under) }

pub counting_end : (n count rest : ℕ) → Counting n count rest → rest ≤ 9 → count ≡ length (digits n)
counting_end n count rest v h = omega (arith, v.sum, ap length (digits_small rest (omega arith)))
