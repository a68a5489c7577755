-- All of a list of bytes: its code points, and whether it is well formed (RFC 3629, section 4: UTF8-octets = *( UTF8-char )).
-- Both go through the list byte by byte. The number k is how many bytes are still to be passed over before a character begins.
-- Assumes nothing.
use Rattle.std.specs.Prelude.{ℕ, zero, suc, ◌+◌, ◌<◌, ◌≤◌, ◌≡◌, List, [], ◌∷◌, ◌++◌, length, drop, Result, Ok, Err}
use Rattle.utf8.specs.Encode.{Scalar, encode}
use Rattle.utf8.specs.Read.{Read, decode_head}
use Rattle.utf8.specs.declared.ReadError.TheVariants.{Bad, Cut}
use Rattle.utf8.specs.declared.Utf8Error.{Utf8Error}
use Rattle.utf8.specs.declared.Utf8Error.TheVariants.{BadAt, CutAt}

-- f of the character, or what is said of wrong bytes, or of cut ones
abbrev pub on_read : {A : Type 0} → Read → (ℕ → ℕ → A) → A → A → A
on_read (Ok (c, n)) f bad cut = f c n
on_read (Err Bad) f bad cut = bad
on_read (Err Cut) f bad cut = cut

-- one less
abbrev pub less : ℕ → ℕ
less zero = zero
less (suc n) = n

-- the code points up to the first place where no character stands
unfoldable pub chars_in : ℕ → List ℕ → List ℕ
chars_in k [] = []
chars_in (suc k) (b ∷ bs) = chars_in k bs
chars_in zero (b ∷ bs) = on_read (decode_head (b ∷ bs)) (λ c n. c ∷ chars_in (less n) bs) [] []

abbrev pub chars : List ℕ → List ℕ
chars l = chars_in 0 l

-- whether all is well formed, where the list begins at the place i
unfoldable pub check_in : ℕ → ℕ → List ℕ → Result (Unit {0}) Utf8Error
check_in i k [] = Ok tt
check_in i (suc k) (b ∷ bs) = check_in (suc i) k bs
check_in i zero (b ∷ bs) = on_read (decode_head (b ∷ bs)) (λ c n. check_in (suc i) (less n) bs) (Err (BadAt i)) (Err (CutAt i))

abbrev pub check_from : ℕ → List ℕ → Result (Unit {0}) Utf8Error
check_from i l = check_in i 0 l

-- the character c stands at the place i of s, with n bytes; the code points go on behind it
pub record At (s : List ℕ) (i c n : ℕ) : Type 0 where
  pub scalar : Scalar c
  pub width : length (encode c) ≡ n
  pub bytes : drop i s ≡ encode c ++ drop (i + n) s
  pub some : 0 < n
  pub fits : i + n ≤ length s
  pub step : chars (drop i s) ≡ c ∷ chars (drop (i + n) s)
