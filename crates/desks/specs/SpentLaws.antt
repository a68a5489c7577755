-- In a fit pool a string starts where those before it end.
--     spent                       the lengths of the first n entries together
--     start_spent, all_spent      a string starts there, and all of them are the byte count
-- Assumes nothing.
use Prim.Native.Nat.{ℕ, zero, suc, ◌+◌, ◌<◌, ◌≤◌}
use native.Mathlib.Omega.{arith}
use Rattle.std.proofs.Math.Path.{◌≡◌, refl, ap}
use Rattle.std.proofs.Common.{sym, ◌∙◌}
use Rattle.std.specs.Prelude.{Bool, List}
use Rattle.std.proofs.Math.Bool.{true}
use borrow.Author.Tests.{eqb-true}
use Rattle.base.specs.PickLaws.{by_eq, split_eq}
use Rattle.pool_rows.specs.Rows.{start_of, length_of, runs_to}

-- the lengths of the first n entries together
unfoldable pub spent : List ℕ → ℕ → ℕ
spent entries zero = 0
spent entries (suc n) = spent entries n + length_of entries n

module _ (entries : List ℕ) where
  spent_more : (n : ℕ) → spent entries (suc n) ≡ spent entries n + length_of entries n
  unfolding spent
  spent_more n = refl

  -- entries that run from where the first k end
  run_spent : (k n start end : ℕ) → runs_to entries k n start end ≡ true → start ≡ spent entries k
      → ((j : ℕ) → k ≤ j → j < k + n → start_of entries j ≡ spent entries j) × (spent entries (k + n) ≡ end)
  unfolding runs_to
  run_spent k zero start end e f =
      let z : k + 0 ≡ k = omega arith in
      let q = eqb-true start end e in
      (λ j a b. absurd (omega arith), rw z (sym f ∙ q))
  run_spent k (suc n) start end e' f' =
      by_eq (λ (t : Bool). t ≡ true → start ≡ spent entries k
      → ((j : ℕ) → k ≤ j → j < k + suc n → start_of entries j ≡ spent entries j) × (spent entries (k + suc n) ≡ end))
      (start_of entries k) start
      (λ h e f.
      let p = run_spent (suc k) n (start + length_of entries k) end e (omega (arith, spent_more k)) in
      let z : suc k + n ≡ k + suc n = omega arith in (
        λ j a b.
            split_eq k j
            (λ q. ap (λ (i : ℕ). start_of entries i) (sym q) ∙ h ∙ f ∙ ap (spent entries) q)
            (λ q. p.0 j (omega arith) (omega arith)),
        ap (spent entries) (sym z) ∙ p.1,
      ))
      (λ h e f. let z : ◌≡◌ {A = ℕ} 0 1 = cc in absurd (omega arith))
      e' f'

  module _ (n end : ℕ) (runs : runs_to entries 0 n 0 end ≡ true) where
    pub start_spent : (j : ℕ) → j < n → start_of entries j ≡ spent entries j
    unfolding spent
    start_spent j h = (run_spent 0 n 0 end runs refl).0 j (omega arith) (omega arith)

    pub all_spent : spent entries n ≡ end
    unfolding spent
    all_spent = let z : 0 + n ≡ n = omega arith in rw z at (run_spent 0 n 0 end runs refl).1
