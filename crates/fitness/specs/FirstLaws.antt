-- Laws of `first_bad`.
--     good_before, bad_there, at_most    what the answer is: the test holds before it, fails at it, and it is at most the end
--     is_first, none_bad, some_bad       the converse: what makes a number the answer, or the end, or neither the end nor past it
--     all_good_lem                           a test that holds at each number: the end is the answer
--     Going, start, next, here, done     a loop that tries one number after the other: what it keeps, a turn, the two ends
-- Assumes nothing.
use Prim.Native.Nat.{ℕ, zero, suc, ◌+◌, ◌-◌, ◌<◌, ◌≤◌}
use native.Mathlib.Omega.{arith}
use Rattle.std.proofs.Math.Numerals.{add-one}
use Rattle.std.specs.Prelude.{◌≡◌, Bool, true}
use Rattle.std.proofs.Common.{sym, ◌∙◌}
use Rattle.std.proofs.Math.Bool.{false}
use Rattle.base.specs.PickLaws.{by_test, split_lt, split_eq}
use Rattle.base.specs.All.{all_good}
use Rattle.base.specs.AllLaws.{good_at}
use Rattle.fitness.specs.First.{first_bad}

module _ (ok : ℕ → Bool) where
  pub good_before : (i n k : ℕ) → i ≤ k → k < first_bad ok i n → ok k ≡ true
  unfolding first_bad
  good_before i zero k h l = absurd (omega arith)
  good_before i (suc n) k h l =
      by_test (λ (b : ℕ). k < b → ok k ≡ true) (ok i)
      (λ e m. split_eq i k (λ q. rw q at e) (λ q. good_before (suc i) n k (omega arith) m))
      (λ e m. absurd (omega arith)) l

  pub at_most : (i n : ℕ) → first_bad ok i n ≤ i + n
  unfolding first_bad
  at_most i zero = omega arith
  at_most i (suc n) = by_test (λ (b : ℕ). b ≤ i + suc n) (ok i) (λ e. omega (arith, at_most (suc i) n)) (λ e. omega arith)

  pub bad_there : (i n : ℕ) → first_bad ok i n < i + n → ok (first_bad ok i n) ≡ false
  unfolding first_bad
  bad_there i zero l = absurd (omega arith)
  bad_there i (suc n) l =
      by_test (λ (b : ℕ). b < i + suc n → ok b ≡ false) (ok i) (λ e m. bad_there (suc i) n (omega arith)) (λ e m. e) l

  pub none_bad : (i n : ℕ) → ((k : ℕ) → i ≤ k → k < i + n → ok k ≡ true) → first_bad ok i n ≡ i + n
  unfolding first_bad
  none_bad i zero good = omega arith
  none_bad i (suc n) good =
      rw (good i (omega arith) (omega arith))
      (omega (arith, none_bad (suc i) n (λ k h l. good k (omega arith) (omega arith))))

  pub all_good_lem : (n : ℕ) → all_good ok n ≡ true → first_bad ok 0 n ≡ n
  all_good_lem n e = none_bad 0 n (λ k _ h. good_at ok n k (omega arith) e) ∙ omega arith

  pub some_bad : (i n k : ℕ) → i ≤ k → k < i + n → ok k ≡ false → first_bad ok i n < i + n
  some_bad i n k h l bad =
      split_lt (first_bad ok i n) (i + n) (λ m. m)
      (λ m. let good = good_before i n k h (omega arith) in let z : ◌≡◌ {A = ℕ} 0 1 = cc in absurd (omega arith))

  pub is_first : (i n b : ℕ) → i ≤ b → b < i + n → ((k : ℕ) → i ≤ k → k < b → ok k ≡ true) → ok b ≡ false → first_bad ok i n ≡ b
  unfolding first_bad
  is_first i zero b h l good bad = absurd (omega arith)
  is_first i (suc n) b h l good bad =
      split_eq i b (λ e. let f : ok i ≡ false = rw (sym e) at bad in rw f e)
      (λ e.
      rw (good i (omega arith) (omega arith))
      (is_first (suc i) n b (omega arith) (omega arith) (λ k m o. good k (omega arith) o) bad))

  -- a loop over the numbers below e has passed those below i: the answer from there on is the answer
  abbrev pub Going : ℕ → ℕ → Type 0
  Going e i = first_bad ok i (e - i) ≡ first_bad ok 0 e

  pub start : (e : ℕ) → Going e 0
  start e = let z : e - 0 ≡ e = omega arith in rw z

  module _ (e i : ℕ) (g : Going e i) where
    pub next : i < e → ok i ≡ true → Going e (i + 1)
    unfolding first_bad
    next h t = let s : e - i ≡ suc (e - (i + 1)) = omega arith in rw (← add-one i) at (rw (s, t) at g)

    pub here : i < e → ok i ≡ false → i ≡ first_bad ok 0 e
    unfolding first_bad
    here h t = let s : e - i ≡ suc (e - (i + 1)) = omega arith in rw (s, t) at g

    pub done : e ≤ i → i ≡ first_bad ok 0 e
    unfolding first_bad
    done h = let s : e - i ≡ 0 = omega arith in rw s at g
