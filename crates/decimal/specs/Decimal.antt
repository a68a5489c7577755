-- A number in decimal digits without leading zeros, the most significant first, as the characters' codes.
-- Assumes nothing.
use Rattle.std.specs.Prelude.{ℕ, zero, suc, ◌+◌, ◌/◌, ◌%◌, true, false, List, [], ◌∷◌, ◌++◌, ltb}
use Rattle.format_options.specs.Letters.{zero_digit}

-- a number under 10 is one digit; any other is the digits of its tenth, and one more. The first number is how often that may be done
unfoldable pub digits_in : ℕ → ℕ → List ℕ
digits_in zero n = (zero_digit + n) ∷ []
digits_in (suc most) n = elim (ltb n 10) [ true ↦ (zero_digit + n) ∷ [] | false ↦ digits_in most (n / 10) ++ (zero_digit + n % 10) ∷ [] ]

abbrev pub digits : ℕ → List ℕ
digits n = digits_in n n
