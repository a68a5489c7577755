-- `fast_keywords::place` meets its contract: four times sixteen is no more than the places, so the length counts by its rest. Assumes nothing.
use Prim.Native.Nat.{ℕ, ◌+◌, ◌*◌, ◌/◌, ◌%◌}
use native.Mathlib.Nat.{div-add-mod, add-mul-mod_self_left}
use native.Mathlib.Omega.{arith}
use mathlib.Core.Path.{◌≡◌, sym, ap, ◌∙◌}
use Rattle.fast_keywords.specs.Slots.{place_by}
use Rattle.fast_keywords.proofs.place.Goals as goal

by_rest : (a b n : ℕ) → (a + 4 * (b + n % 16)) % 64 ≡ (a + 4 * (b + n)) % 64
by_rest a b n =
    let whole : a + 4 * (b + n) ≡ a + 4 * (b + n % 16) + 64 * (n / 16) = omega (arith, div-add-mod n 16) in
    sym (ap (λ (x : ℕ). x % 64) whole ∙ add-mul-mod_self_left (a + 4 * (b + n % 16)) 64 (n / 16))

pub returns : goal.returns
unfolding place_by
returns c = by_rest _ _ _
