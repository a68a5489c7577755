-- The row of symbols: what it says of a byte below 128 and the one behind it. A value is the symbol's kind, and 128 more where it has two bytes; the
-- kind Error says nothing.
-- Assumes nothing.
use Rattle.std.specs.Prelude.{ℕ, ◌+◌, ◌*◌, ◌/◌, ◌%◌, ◌<◌, ◌≡◌, false, List, ◌∷◌, eqb, get_or, Some}
use Rattle.base.specs.Pick.{pick}
use Rattle.token.specs.Kind.{error}
use Rattle.text.specs.Bytes.{byte_at}
use Rattle.symbols.specs.Symbols.{symbol_of, symbol}
use Rattle.signs.specs.Signs.{Plain}

-- the byte behind, as far as symbols tell it: "=", ">", ".", or another, or none
unfoldable pub behind : ℕ → ℕ
behind next = pick (eqb next 61) 1 (pick (eqb next 62) 2 (pick (eqb next 46) 3 0))

-- the value at a byte, with such a byte behind it
abbrev pub entry_at : List ℕ → ℕ → ℕ → ℕ
entry_at row b n = get_or row (b + 128 * n) 0

-- what bytes b and rest begin with, by a value
pub record Tells (v b : ℕ) (rest : List ℕ) : Type 0 where
  pub plain : Plain (v % 128)
  pub is : symbol_of (b ∷ rest) ≡ Some (symbol (v % 128) (1 + v / 128))

-- a row tells symbols
pub record SignTable (row : List ℕ) : Type 0 where
  pub tells : (b : ℕ) (rest : List ℕ) → b < 128 → eqb (entry_at row b (behind (byte_at rest 0)) % 128) error ≡ false
      → Tells (entry_at row b (behind (byte_at rest 0))) b rest
