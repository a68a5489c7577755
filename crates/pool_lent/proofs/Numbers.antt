-- What the functions on bytes and numbers show, over lists and numbers.
--     new_room                  where a new index is handed out, there is room
-- Assumes nothing.
use Prim.Native.Nat.{ℕ, ◌+◌, ◌<◌, ◌≤◌}
use native.Mathlib.Omega.{arith}
use mathlib.Core.Path.{◌≡◌}
use mathlib.Core.Bool.{true}
use borrow.Author.Tests.{eqb-true}
use Rattle.base.specs.PickLaws.{by_lt}
use Rattle.pool.specs.Pool.{placed, is_new}
use Rattle.pool_rows.specs.declared.Counts.{Counts}
use Rattle.pool.specs.declared.Added.{Added}
use Rattle.pool.specs.declared.AddError.{AddError}
use Rattle.std.specs.Prelude.{Result}

module _ (long found : ℕ) (counts : Counts) (forEntries forBytes : ℕ) where
  pub new_room : is_new counts (placed long found counts forEntries forBytes) ≡ true
      → (counts.entries < forEntries) × (counts.bytes + long ≤ forBytes)
  unfolding placed
  new_room =
      let Claim : Result Added AddError → Type 0 = λ r. is_new counts r ≡ true → (counts.entries < forEntries) × (counts.bytes + long ≤ forBytes) in
      by_lt Claim found counts.entries
      (λ h e. absurd (omega (arith, eqb-true found counts.entries e)))
      (λ h. by_lt Claim forEntries (counts.entries + 1)
      (λ l e. let z : ◌≡◌ {A = ℕ} 0 1 = cc in absurd (omega arith))
      (λ l. by_lt Claim forBytes (counts.bytes + long)
      (λ m e. let z : ◌≡◌ {A = ℕ} 0 1 = cc in absurd (omega arith))
      (λ m e. (omega arith, omega arith))))
