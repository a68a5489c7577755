-- What the loop of `copy_in` keeps, over lists and numbers: how it starts, goes on and ends.
--     Copied: copy_none, copy_one, copy_all    the first i bytes stand in the row, and it is as long as it was
-- Assumes nothing.
use Prim.Native.Nat.{ℕ, ◌+◌, ◌<◌, ◌≤◌}
use native.Mathlib.Omega.{arith}
use native.Mathlib.Numerals.{add-one}
use mathlib.Core.Path.{◌≡◌, refl, ◌∙◌}
use mathlib.Core.List.{List, append_assoc}
use lib.ListN.{length, get_or, set, take, drop, length-set}
use lib.Seq.{take-length, paste, paste-zero, paste-suc}
use Rattle.pool.specs.Pool.{written}

-- the first i bytes of the string stand in the row from index `at` on, and it is as long as it was
pub record Copied (string old : List ℕ) (at : ℕ) (row : List ℕ) (i : ℕ) : Type 0 where
  pub within : i ≤ length string
  pub long : length row ≡ length old
  pub holds : row ≡ paste old at string i

module _ (string old : List ℕ) (at : ℕ) where
  pub copy_none : Copied string old at old 0
  copy_none = record { within = omega arith; long = refl; holds = paste-zero old at string }

  module _ (row : List ℕ) (i : ℕ) (c : Copied string old at row i) where
    pub copy_one : i < length string → at + length string ≤ length old → Copied string old at (set row (at + i) (get_or string i 0)) (i + 1)
    copy_one h room =
        record {
          within = omega arith;
          long = length-set row (at + i) (get_or string i 0) ∙ c.long;
          holds = rw (c.holds, add-one i) (paste-suc old at string i 0 (omega arith) h);
        }

    pub copy_all : length string ≤ i → row ≡ written old at string
    copy_all h =
        let e : i ≡ length string = omega (arith, c.within) in
        c.holds ∙ rw (e, take-length string) (append_assoc (take at old) string (drop (at + length string) old))
