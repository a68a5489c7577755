-- Laws of `inside`.
--     inside_is, is_inside    it holds exactly where lo ≤ b ≤ hi
--     under, over             it fails below lo and above hi
-- Assumes nothing.
use Rattle.std.specs.Prelude.{ℕ, ◌<◌, ◌≤◌, refl, Bool, false}
use Rattle.std.proofs.Common.{arith}
use Rattle.std.proofs.Math.Path.{◌≡◌}
use Rattle.std.proofs.Math.Bool.{true}
use borrow.Author.Tests.{leb-true, lt-ltb, le-ltb, le-leb, lt-leb}
use Rattle.base.specs.PickLaws.{by_lt}
use Rattle.base.specs.Range.{inside}

module _ (b lo hi : ℕ) where
  pub inside_is : inside b lo hi ≡ true → (lo ≤ b) × (b ≤ hi)
  unfolding inside
  inside_is =
      by_lt (λ (t : Bool). t ≡ true → (lo ≤ b) × (b ≤ hi)) b lo
      (λ h e. let z : ◌≡◌ {A = ℕ} 0 1 = cc in omega arith) (λ h e. (h, leb-true b hi e))

  pub is_inside : lo ≤ b → b ≤ hi → inside b lo hi ≡ true
  unfolding inside
  is_inside h k = rw (le-ltb b lo h) (le-leb b hi k)

  pub under : b < lo → inside b lo hi ≡ false
  unfolding inside
  under h = rw (lt-ltb b lo h)

  pub over : hi < b → inside b lo hi ≡ false
  unfolding inside
  over h = by_lt (λ (t : Bool). t ≡ false) b lo (λ k. refl) (λ k. lt-leb b hi h)
