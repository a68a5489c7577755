-- Document 02, C-13: each desk hands in the indices that it still uses, in any order, and twice or not. A mark is bad where no entry has that
-- index, and refusal 20 tells it, as it tells a translation row that is too short.
-- Assumes nothing.
use Rattle.std.specs.Prelude.{ℕ, List, [], ◌∷◌, Bool, true, false, eqb, ltb, length, set}
use Rattle.base.specs.Pick.{pick}

-- whether a desk marked an index
unfoldable pub is_in : ℕ → List ℕ → Bool
is_in k [] = false
is_in k (m ∷ marks) = pick (eqb m k) true (is_in k marks)

-- marked by either desk
abbrev pub is_marked : List ℕ → List ℕ → ℕ → Bool
is_marked first second k = pick (is_in k first) true (is_in k second)

-- every mark is an index that was given
unfoldable pub all_given : List ℕ → ℕ → Bool
all_given [] n = true
all_given (m ∷ marks) n = pick (ltb m n) (all_given marks n) false

-- no mark is bad, and the translation row has a word for each entry
unfoldable pub good_marks : List ℕ → List ℕ → List ℕ → ℕ → Bool
good_marks first second moved n =
    pick (ltb (length moved) n) false
    (pick (all_given first n) (all_given second n) false)

-- ---- inside: the translation row that carries them

-- a row with 0 at each mark
unfoldable pub marked : List ℕ → List ℕ → List ℕ
marked row [] = row
marked row (m ∷ marks) = marked (set row m 0) marks
