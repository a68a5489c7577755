-- Tests that hold together.
--     and_left, and_right    of two tests that hold, each holds
--     one_more_lem, good_at      laws of `all_good`: at one number more; where it holds, so does the test at each number below
-- Assumes nothing.
use Prim.Native.Nat.{ℕ, zero, suc, ◌+◌, ◌<◌}
use Rattle.std.proofs.Common.{arith, add-one}
use Rattle.std.specs.Prelude.{◌≡◌, Bool, true, ◌&&◌}
use Rattle.std.proofs.Math.Bool.{and-eq-true_iff}
use Rattle.base.specs.PickLaws.{split_eq}
use Rattle.base.specs.All.{all_good}

pub and_left : (a b : Bool) → (a && b) ≡ true → a ≡ true
and_left a b e = ((and-eq-true_iff a b).0 e).0

pub and_right : (a b : Bool) → (a && b) ≡ true → b ≡ true
and_right a b e = ((and-eq-true_iff a b).0 e).1

module _ (ok : ℕ → Bool) where
  pub one_more_lem : (n : ℕ) → all_good ok (n + 1) ≡ (all_good ok n && ok n)
  unfolding all_good
  one_more_lem n = rw (add-one n)

  pub good_at : (n k : ℕ) → k < n → all_good ok n ≡ true → ok k ≡ true
  unfolding all_good
  good_at zero k h e = absurd (omega arith)
  good_at (suc n) k h e =
      split_eq k n (λ q. rw q (and_right (all_good ok n) (ok n) e)) (λ q. good_at n k (omega arith) (and_left (all_good ok n) _ e))
