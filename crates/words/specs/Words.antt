-- lexer.rs `check_keyword!` and `check_symbol!`: words as fixed byte strings, and the first entry of a table that passes a test.
-- Assumes nothing.
use Rattle.std.specs.Prelude.{Bool, true, false, ◌&&◌, List, [], ◌∷◌, ℕ, eqb}
use Prim.Native.Char.{code}
use Prim.Native.String.{String}
use Prim.Native.String as Text
use Rattle.base.specs.Pick.{pick}

-- ---- words

-- the bytes of an ASCII text
abbrev pub bytes : String → List ℕ
bytes Text.[] = []
bytes (Text.◌∷◌ c t) = code c ∷ bytes t

-- the bytes l are exactly the word w
unfoldable pub is_word : List ℕ → List ℕ → Bool
is_word [] [] = true
is_word [] (b ∷ l) = false
is_word (c ∷ w) [] = false
is_word (c ∷ w) (b ∷ l) = eqb b c && is_word w l

-- the bytes l begin with the word w
unfoldable pub starts_with : List ℕ → List ℕ → Bool
starts_with [] l = true
starts_with (c ∷ w) [] = false
starts_with (c ∷ w) (b ∷ l) = eqb b c && starts_with w l

-- ---- tables

-- a word and the kind of token that it is
pub record Entry : Type 0 where
  pub text : List ℕ
  pub kind : ℕ

abbrev pub entry : String → ℕ → Entry
entry text kind = record { text = bytes text; kind = kind }

-- what is answered of the first entry that passes a test, and what where none does
unfoldable pub first_in : {A : Type 0} → (Entry → Bool) → (Entry → A) → A → List Entry → A
first_in test answer none [] = none
first_in test answer none (e ∷ es) = pick (test e) (answer e) (first_in test answer none es)

-- the entries that pass a test
abbrev pub only : (Entry → Bool) → List Entry → List Entry
only test [] = []
only test (e ∷ es) = pick (test e) (e ∷ only test es) (only test es)

-- ---- words that a name is compared with one by one

-- `consume_id_or_keyword` asks for these by themselves, before the keywords
abbrev pub else_word : List ℕ
else_word = bytes "else"

abbrev pub else_if_word : List ℕ
else_if_word = bytes "else if"

abbrev pub r_word : List ℕ
r_word = bytes "r"
