-- What the answers of `read_char` and `check_utf8` mean, by `encode` alone. `MeaningLaws` proves that the definitions which the contracts
-- cite (`read_at`, `check_from`) answer so, and that no other answer fits.
-- Assumes nothing.
use Rattle.std.specs.Prelude.{ℕ, ◌+◌, ◌<◌, ◌≤◌, ◌≡◌, List, ◌++◌, length, take, drop, Result, Ok, Err}
use Rattle.utf8.specs.Encode.{Scalar, encode, WellFormed, Begins}
use Rattle.utf8.specs.Read.{Read}
use Rattle.utf8.specs.declared.ReadError.TheVariants.{Bad, Cut}
use Rattle.utf8.specs.declared.Utf8Error.{Utf8Error}
use Rattle.utf8.specs.declared.Utf8Error.TheVariants.{BadAt, CutAt}

-- the character c, in n bytes, stands at the place i of s
pub record CharAt (s : List ℕ) (i c n : ℕ) : Type 0 where
  pub scalar : Scalar c
  pub width : length (encode c) ≡ n
  pub bytes : drop i s ≡ encode c ++ drop (i + n) s

-- r says what stands at the place i of s
abbrev pub ReadIs : List ℕ → ℕ → Read → Type 0
ReadIs s i (Ok (c, n)) = CharAt s i c n
ReadIs s i (Err Cut) = Begins (drop i s)
ReadIs s i (Err Bad) = ((c n : ℕ) → CharAt s i c n → ⊥) × (Begins (drop i s) → ⊥)

-- the first n bytes of s are well formed, they are not all, and no longer beginning of s is well formed
pub record Longest (s : List ℕ) (n : ℕ) : Type 0 where
  pub well : WellFormed (take n s)
  pub short : n < length s
  pub none_longer : (m : ℕ) → n < m → m ≤ length s → WellFormed (take m s) → ⊥

-- document 02, C-3: from n on, s is a proper beginning of some character's encoding, stopped by the end
pub record Arriving (s : List ℕ) (n : ℕ) : Type 0 where
  pub before : Longest s n
  pub begins : Begins (drop n s)

-- or it is not: what stands there is wrong, whatever may still come
pub record Damaged (s : List ℕ) (n : ℕ) : Type 0 where
  pub before : Longest s n
  pub begins_none : Begins (drop n s) → ⊥

-- r says whether s is well formed; if not, where it is not, and whether it is wrong there or still arriving
abbrev pub CheckIs : List ℕ → Result (Unit {0}) Utf8Error → Type 0
CheckIs s (Ok _) = WellFormed s
CheckIs s (Err (BadAt n)) = Damaged s n
CheckIs s (Err (CutAt n)) = Arriving s n
