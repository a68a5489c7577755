-- lexer.rs `consume_and_count` and `consume_and_count_utf8`: the run of characters at the front of what is left that pass a test.
-- `look` gives the properties of a code point.
-- Assumes nothing.
use Rattle.std.specs.Prelude.{ℕ, suc, ◌+◌, Bool, true, false, List, [], ◌∷◌, length}
use Rattle.position.specs.Place.{along_by}
use Rattle.position.specs.declared.Reach.{Reach}
use Rattle.utf8.specs.Encode.{encode}
use Rattle.property.specs.Parts.{width_of}
use Rattle.text.specs.Tests.{test_utf8_of}

-- `c.len_utf8()`
abbrev pub len_utf8 : ℕ → ℕ
len_utf8 c = length (encode c)

-- the bytes of some characters
unfoldable pub bytes_of : List ℕ → ℕ
bytes_of [] = 0
bytes_of (c ∷ cs) = len_utf8 c + bytes_of cs

-- `consume_and_count`: how many characters
unfoldable pub count_while : (ℕ → Bool) → List ℕ → ℕ
count_while f [] = 0
count_while f (c ∷ cs) = elim (f c) [ true ↦ suc (count_while f cs) | false ↦ 0 ]

-- `consume_and_count_utf8`: how far they reach from r on
unfoldable pub run_utf8 : (ℕ → ℕ) → (ℕ → Bool) → Reach → List ℕ → Reach
run_utf8 look f r [] = r
run_utf8 look f r (c ∷ cs) = elim (f c) [ true ↦ run_utf8 look f (along_by (len_utf8 c) (width_of (look c)) r) cs | false ↦ r ]

-- the same, with a test of the properties too
abbrev pub run_test : (ℕ → ℕ) → (ℕ → ℕ → Bool) → Reach → List ℕ → Reach
run_test look test r cs = run_utf8 look (test_utf8_of look test) r cs
