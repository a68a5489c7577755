-- The row by a computed test at each place, and what the classes of a range have in common, by a computed test over the ASCII bytes.
--     class_table     a row whose test holds at each of the 256 places
--     by_class        what a test says of the ASCII bytes in a range of classes holds of every byte in it
-- Assumes nothing.
use Rattle.std.specs.Prelude.{ℕ, ◌≤◌, ◌<◌, ◌≡◌, Bool, true, false, not, ◌||◌, List, eqb, get_or}
use Rattle.std.proofs.Common.{arith, lt-ltb, eqb-true}
use Rattle.base.specs.All.{all_good}
use Rattle.base.specs.AllLaws.{good_at}
use Rattle.base.specs.PickLaws.{by_lt, split_lt}
use Rattle.base.specs.Range.{inside}
use Rattle.base.specs.RangeLaws.{inside_is}
use Rattle.classes.specs.Classes.{class_of, ClassTable}

-- ---- the row

pub class_table : (l : List ℕ) → all_good (λ b. eqb (get_or l b 0) (class_of b)) 256 ≡ true → ClassTable l
class_table l e = record { at = λ b h. eqb-true (get_or l b 0) (class_of b) (good_at (λ b. eqb (get_or l b 0) (class_of b)) 256 b h e) }

-- ---- ranges of classes

-- above 127
wide_class : (b : ℕ) → 128 ≤ b → 19 < class_of b
unfolding class_of
wide_class b h = rw (lt-ltb 127 b (omega arith)) (by_lt (λ (c : ℕ). 19 < c) 191 b (λ _. omega arith) (λ _. omega arith))

-- where the class is in the range, the test holds
abbrev pub means : ℕ → ℕ → (ℕ → Bool) → ℕ → Bool
means first last test b = not (inside (class_of b) first last) || test b

implied : (a b : Bool) → (not a || b) ≡ true → a ≡ true → b ≡ true
implied true b e f = e
implied false b e f = let z : ◌≡◌ {A = ℕ} 0 1 = cc in absurd (omega arith)

pub by_class : (first last : ℕ) (test : ℕ → Bool) → all_good (means first last test) 128 ≡ true → last ≤ 19 → (b : ℕ)
    → inside (class_of b) first last ≡ true → test b ≡ true
by_class first last test e l b t =
    split_lt b 128 (λ h. implied _ _ (good_at (means first last test) 128 b h e) t)
    (λ h. absurd (omega (arith, (inside_is (class_of b) first last t).1, wide_class b h)))
