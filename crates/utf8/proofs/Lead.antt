-- The count of a byte's leading ones decides the length of its sequence: one test, which antt computes at each of the 256 bytes.
-- Assumes nothing.
use Prim.Native.Nat.{ℕ, ◌-◌}
use mathlib.Core.Path.{◌≡◌, refl, sym}
use mathlib.Core.Bool.{Bool}
use lib.Dec.{ltb, eqb}
use lib.Count.{count_leading_zeros}
use native.Mathlib.Omega.{arith}
use borrow.Author.Tests.{eqb-true, le-ltb}
use Rattle.base.specs.Pick.{pick}
use Rattle.base.specs.PickLaws.{split_lt}
use Rattle.base.specs.All.{all_good}
use Rattle.base.specs.AllLaws.{good_at}
use Rattle.utf8.specs.Read.{seq_len}

-- what `lead_len` makes of a byte a with o leading ones
unfoldable pub len_by : ℕ → ℕ → ℕ
len_by o a =
    pick (eqb o 0) 1
    (pick (eqb o 2) (pick (ltb a 0xc2) 0 2) (pick (eqb o 3) 3 (pick (eqb o 4) (pick (ltb a 0xf5) 4 0) 0)))

right : ℕ → Bool
right a = eqb (len_by (count_leading_zeros 8 (255 - a)) a) (seq_len a)

-- for a number that is no byte both are 0
pub len_by_ones : (a : ℕ) → len_by (count_leading_zeros 8 (255 - a)) a ≡ seq_len a
unfolding right all_good count_leading_zeros seq_len len_by
len_by_ones a =
    split_lt a 256 (λ h. eqb-true (len_by (count_leading_zeros 8 (255 - a)) a) (seq_len a) (good_at right 256 a h refl))
    (λ h. let e : 255 - a ≡ 0 = omega arith in
    rw
    (e, le-ltb a 0x80 (omega arith), le-ltb a 0xc2 (omega arith), le-ltb a 0xe0 (omega arith), le-ltb a 0xf0 (omega arith), le-ltb a 0xf5 (omega arith)))

-- the same, as `lead_len` asks for it
pub seq_len_by : (a : ℕ) → seq_len a ≡ len_by (count_leading_zeros 8 (255 - a)) a
seq_len_by a = sym (len_by_ones a)
