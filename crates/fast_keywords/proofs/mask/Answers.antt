-- `fast_keywords::mask` meets its contract: at a known length the power computes. Assumes nothing.
use native.Mathlib.Omega.{arith}
use Prim.Native.Nat.{ℕ, ◌*◌, ◌-◌, ◌^◌, ◌≤◌}
use mathlib.Core.Path.{◌≡◌, refl, sym, ◌∙◌}
use mathlib.Core.Bool.{false≢true}
use mathlib.Core.List.{List, [], ◌∷◌}
use borrow.Author.Tests.{eq-eqb}
use Rattle.base.specs.All.{all_good}
use Rattle.base.specs.AllLaws.{good_at}
use Rattle.base.specs.PickLaws.{split_lt}
use Rattle.words.specs.WordsLaws.{Outside, among, outside_other}
use Rattle.fast_keywords.proofs.mask.Goals as goal

-- the lengths that the code's `match` leaves behind, the greatest first
abbrev shorter : List ℕ
shorter = 7 ∷ 6 ∷ 5 ∷ 4 ∷ 3 ∷ 2 ∷ 1 ∷ 0 ∷ []

eight : (n : ℕ) → n ≤ 8 → Outside n shorter → n ≡ 8
unfolding all_good
eight n h o =
    split_lt n 8
    (λ k. absurd (false≢true (sym (outside_other n n shorter o (good_at (λ m. among m shorter) 8 n k refl)) ∙ eq-eqb n n refl)))
    (λ k. omega arith)

whole : {n : ℕ} → n ≡ 8 → ◌≡◌ {A = ℕ} 18446744073709551615 (2 ^ (8 * n) - 1)
whole e = rw e

pub returns-in-0 : goal.returns-in-0
returns-in-0 c = rw c.in-0.is

pub returns-in-1 : goal.returns-in-1
returns-in-1 c = rw c.in-1.is

pub returns-in-2 : goal.returns-in-2
returns-in-2 c = rw c.in-2.is

pub returns-in-3 : goal.returns-in-3
returns-in-3 c = rw c.in-3.is

pub returns-in-4 : goal.returns-in-4
returns-in-4 c = rw c.in-4.is

pub returns-in-5 : goal.returns-in-5
returns-in-5 c = rw c.in-5.is

pub returns-in-6 : goal.returns-in-6
returns-in-6 c = rw c.in-6.is

pub returns-in-7 : goal.returns-in-7
returns-in-7 c = rw c.in-7.is

pub returns-in_default : goal.returns-in_default
returns-in_default c = whole (eight _ c.requires c.in_default.in_default-own.rest)
