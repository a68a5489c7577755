-- What the `else` of `let Ok((..)) = read_char(..) else { .. }` is told: the answer is a refusal.
-- Assumes nothing.
use Rattle.std.specs.Prelude.{Ok, Err}
use mathlib.Core.Path.{◌≡◌, refl}
use Prim.Native.Nat.{ℕ}
use Rattle.utf8.specs.CharsLaws.{Stops}
use Rattle.utf8.specs.Read.{Read}

pub stopped : (r : Read) → ((x : ℕ × ℕ) → r ≡ Ok x → ⊥) → Stops r
stopped (Ok x) h = absurd (h x refl)
stopped (Err _) h = tt
