-- RFC 3629, section 3, "UTF-8 definition": the bytes of a character, by the table of that section; and what is built of them.
-- Assumes nothing.
use Rattle.std.specs.Prelude.{ℕ, ◌+◌, ◌/◌, ◌%◌, ◌<◌, ◌≤◌, ◌≡◌, List, [], ◌∷◌, ◌++◌, ltb, length}
use Rattle.base.specs.Pick.{pick}

-- a character number that may be encoded: up to U+10FFFF, and none of U+D800 to U+DFFF
pub record Scalar (c : ℕ) : Type 0 where
  pub small : c < 0x110000
  pub whole : 0xd800 ≤ c → c ≤ 0xdfff → ⊥

-- the bytes of a character
unfoldable pub encode : ℕ → List ℕ
encode c =
    -- 0xxxxxxx
    pick (ltb c 0x80) (c ∷ [])
    -- 110xxxxx 10xxxxxx
    (pick (ltb c 0x800) ((0xc0 + c / 64) ∷ (0x80 + c % 64) ∷ [])
    -- 1110xxxx 10xxxxxx 10xxxxxx
    (pick (ltb c 0x10000) ((0xe0 + c / 4096) ∷ (0x80 + c / 64 % 64) ∷ (0x80 + c % 64) ∷ [])
    -- 11110xxx 10xxxxxx 10xxxxxx 10xxxxxx
    ((0xf0 + c / 262144) ∷ (0x80 + c / 4096 % 64) ∷ (0x80 + c / 64 % 64) ∷ (0x80 + c % 64) ∷ [])))

-- the bytes of characters, one after the other
unfoldable pub encode_all : List ℕ → List ℕ
encode_all [] = []
encode_all (c ∷ cs) = encode c ++ encode_all cs

-- every one of them may be encoded
abbrev pub Scalars : List ℕ → Type 0
Scalars [] = Unit {0}
Scalars (c ∷ cs) = Scalar c × Scalars cs

-- well-formed bytes: the encoding of some characters
pub record WellFormed (l : List ℕ) : Type 0 where
  pub points : List ℕ
  pub scalars : Scalars points
  pub same : l ≡ encode_all points

-- a proper beginning of a character: with some bytes more after it, it is the character's encoding. The empty list begins every character
pub record Begins (l : List ℕ) : Type 0 where
  pub code : ℕ
  pub scalar : Scalar code
  pub more : List ℕ
  pub left : 0 < length more
  pub same : encode code ≡ l ++ more
