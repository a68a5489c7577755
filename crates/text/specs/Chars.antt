-- The character at a place of a source, as `char_at`, `decode` and `char_len` give it.
-- Assumes nothing.
use Rattle.std.specs.Prelude.{ℕ, ◌+◌, ◌≡◌, List, drop, Ok}
use Rattle.utf8.specs.Encode.{WellFormed}
use Rattle.utf8.specs.Read.{read_at}
use Rattle.utf8.specs.Chars.{At}
use Rattle.property.specs.Table.{properties_at}
use Rattle.text.specs.declared.Char.{Char}
use Rattle.text.specs.declared.Decoded.{Decoded}

-- the character c stands at the place i of s, with the table's properties; what follows it is well formed again
pub record CharIs (s table : List ℕ) (i : ℕ) (c : Char) : Type 0 where
  pub at : At s i c.code c.len
  pub properties : c.properties ≡ properties_at table c.code
  pub well : WellFormed (drop (i + c.len) s)

-- the character d stands at the place i of s
abbrev pub DecodedIs : List ℕ → ℕ → Decoded → Type 0
DecodedIs s i d = read_at s i ≡ Ok (d.code, d.len)

-- a character of n bytes stands at the place i of s; what follows it is well formed again
pub record LenIs (s : List ℕ) (i n : ℕ) : Type 0 where
  pub code : ℕ
  pub at : At s i code n
  pub well : WellFormed (drop (i + n) s)
