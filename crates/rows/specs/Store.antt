-- Records of one width in a list: each has w numbers, and they stand one after the other from the list's start. Which numbers a record has
-- is a layout's own matter (`Row` has eight); where they stand is said here, for every width w and every `words` that gives a record's
-- numbers.
-- Assumes nothing.
use Rattle.std.specs.Prelude.{List, [], ◌∷◌, ◌++◌, ℕ, ◌+◌, ◌*◌, ◌/◌, length, take, drop}

-- how many records a list has room for
abbrev pub room_for : ℕ → List ℕ → ℕ
room_for w list = length list / w

-- a list in which record i has these numbers; every other number stays
abbrev pub put_at : ℕ → List ℕ → ℕ → List ℕ → List ℕ
put_at w list i numbers = take (w * i) list ++ numbers ++ drop (w * i + w) list

-- the numbers of some records, one after the other
abbrev pub words_all : {A : Type 0} → (A → List ℕ) → List A → List ℕ
words_all words [] = []
words_all words (r ∷ rows) = words r ++ words_all words rows

-- a list that starts with these records; every number after them stays
abbrev pub put_all : {A : Type 0} → ℕ → (A → List ℕ) → List ℕ → List A → List ℕ
put_all w words list rows = words_all words rows ++ drop (w * length rows) list

-- records put from record k on, one after the other
abbrev pub put_from : {A : Type 0} → ℕ → (A → List ℕ) → List ℕ → ℕ → List A → List ℕ
put_from w words list k [] = list
put_from w words list k (r ∷ rows) = put_from w words (put_at w list k (words r)) (k + 1) rows
