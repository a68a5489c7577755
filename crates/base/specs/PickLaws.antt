-- Ways to reason by the cases of a test that computes.
--     by_lt, by_eq, by_test    what holds in both cases holds of the pick. P is what holds, and the fact of the test is handed to each case
--     split_lt, split_eq       two cases of any claim
--     is_second                a pick that is not its first case: the test is false
-- Assumes nothing.
use Rattle.std.specs.Prelude.{ℕ, ◌<◌, ◌≤◌, ◌≡◌, refl, Bool, true, false, ltb, eqb}
use Rattle.std.proofs.Common.{ltb-true, ltb-false, eqb-true}
use Rattle.std.proofs.lemmas.Bool.{eqb-false}
use Rattle.base.specs.Pick.{pick}

module _ {A : Type 0} (P : A → Type 0) where
  pub by_test : (t : Bool) {a b : A} → (t ≡ true → P a) → (t ≡ false → P b) → P (pick t a b)
  by_test true f g = f refl
  by_test false f g = g refl

  pub by_lt : (m n : ℕ) {a b : A} → (m < n → P a) → (n ≤ m → P b) → P (pick (ltb m n) a b)
  by_lt m n f g = by_test (ltb m n) (λ e. f (ltb-true m n e)) (λ e. g (ltb-false m n e))

  pub by_eq : (m n : ℕ) {a b : A} → (m ≡ n → P a) → ((m ≡ n → ⊥) → P b) → P (pick (eqb m n) a b)
  by_eq m n f g = by_test (eqb m n) (λ e. f (eqb-true m n e)) (λ e. g (eqb-false m n e))

pub is_second : {A : Type 0} (t : Bool) (a b v : A) → (a ≡ v → ⊥) → pick t a b ≡ v → (t ≡ false) × (b ≡ v)
is_second true a b v h e = absurd (h e)
is_second false a b v h e = (refl, e)

-- two cases of any claim G
pub split_lt : {G : Type 0} (m n : ℕ) → (m < n → G) → (n ≤ m → G) → G
split_lt {G} m n f g = by_lt {A = Unit {0}} (λ _. G) m n {a = tt} {b = tt} f g

pub split_eq : {G : Type 0} (m n : ℕ) → (m ≡ n → G) → ((m ≡ n → ⊥) → G) → G
split_eq {G} m n f g = by_eq {A = Unit {0}} (λ _. G) m n {a = tt} {b = tt} f g
