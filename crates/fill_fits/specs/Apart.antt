-- A fill of several characters before a sign (UAX #29, GB9b): the rules join the sign to it or not, and of the fill they ask its last
-- character alone, which `ApartLaws` proves.
-- Assumes nothing.
use Rattle.std.specs.Prelude.{ℕ, ◌≡◌, Bool, List, [], ◌∷◌}
use Rattle.uax29.specs.Uax29.{joined}
use Rattle.format_options.specs.Letters.{less}

-- the last of c and cs
abbrev pub last_of : ℕ → List ℕ → ℕ
last_of c [] = c
last_of c (d ∷ ds) = last_of d ds

-- a sign is joined to the last of cs. A fit table says the same of all three signs
abbrev pub joins_sign : (ℕ → ℕ) → ℕ → List ℕ → Bool
joins_sign look edition cs = joined edition (look (last_of 0 cs) ∷ []) (look less)

-- cs begins with c and d
pub record Begins (cs : List ℕ) (c d : ℕ) : Type 0 where
  pub rest : List ℕ
  pub is : cs ≡ c ∷ d ∷ rest
