-- Laws of `consume_u32`.
--     same_value                      no other number with so many digits is the same value
--     with                            the number with one more digit
--     step_more, step_large, step_stop    one step of its loop
--     Took, took, Began, began        the digits of a number that was consumed are characters of one byte each
--     digits_most                     and there are no more of them than bytes
-- Assumes nothing.
use Rattle.std.specs.Prelude.{ℕ, zero, suc, ◌+◌, ◌-◌, ◌*◌, ◌≤◌, ◌<◌, ◌≡◌, refl, Bool, true, false, List, [], ◌∷◌, ltb, length, take, drop, Result, Ok, Err}
use Rattle.std.proofs.Common.{arith, sym, ap, length-drop, lt-ltb, le-ltb}
use Rattle.utf8.specs.Encode.{encode_all}
use Rattle.utf8.specs.EncodeLaws.{encode1}
use Rattle.utf8.specs.Read.{Read, decode_head}
use Rattle.utf8.specs.Chars.{chars_in, chars, less}
use Rattle.utf8.specs.declared.ReadError.TheVariants.{Bad, Cut}
use Rattle.format_options.specs.Letters.{zero_digit, is_digit}
use Rattle.format_options.specs.LettersLaws.{digit_is}
use Rattle.format_options.specs.declared.FormatError.{FormatError}
use Rattle.format_options.specs.declared.FormatError.TheVariants.{TooLarge, ExpectedNumber}
use Rattle.format_number.specs.Number.{peeked, value, digits_of, index_max, digits_from, consume_u32}
use Rattle.format_number.specs.declared.Number.{Number}

-- the number of what was read
abbrev n_of : Result Number FormatError → ℕ
n_of (Ok v) = v.n
n_of (Err e) = 0

pub same_value : (n k m j : ℕ) → value n k ≡ value m j → (n ≡ m) × (k ≡ j)
same_value n k m j e = (ap n_of e, ap digits_of e)

-- the number with one more digit
abbrev pub with : ℕ → ℕ → ℕ
with n c = n * 10 + (c - zero_digit)

-- ---- a step of the definition

pub step_more : (n k c : ℕ) (cs : List ℕ) → is_digit c ≡ true → with n c ≤ index_max → digits_from n k (c ∷ cs) ≡ digits_from (with n c) (k + 1) cs
unfolding digits_from
step_more n k c cs e h = rw (e, le-ltb index_max (with n c) h)

pub step_large : (n k c : ℕ) (cs : List ℕ) → is_digit c ≡ true → index_max < with n c → digits_from n k (c ∷ cs) ≡ Err (TooLarge (with n c))
unfolding digits_from
step_large n k c cs e h = rw (e, lt-ltb index_max (with n c) h)

pub step_stop : (n k : ℕ) (cs : List ℕ) → is_digit (peeked cs) ≡ false → digits_from n k cs ≡ value n k
unfolding digits_from peeked
step_stop n k [] e = refl
step_stop n k (c ∷ cs) e = rw e

-- ---- what was taken

-- j is k and the count of some more characters at the front of cs, each of one byte
pub record Took (k j : ℕ) (cs : List ℕ) : Type 0 where
  pub more : ℕ
  pub is : j ≡ k + more
  pub fits : more ≤ length cs
  pub bytes : length (encode_all (take more cs)) ≡ more

took_none : (k j : ℕ) (cs : List ℕ) → k ≡ j → Took k j cs
unfolding encode_all
took_none k j cs e = record { more = 0; is = omega arith; fits = omega arith; bytes = refl }

took_one : (k j c : ℕ) (cs : List ℕ) → c < 128 → Took (k + 1) j cs → Took k j (c ∷ cs)
unfolding encode_all
took_one k j c cs h t =
    record { more = suc t.more; is = omega (arith, t.is); fits = omega (arith, t.fits); bytes = rw (encode1 c h) (ap suc t.bytes) }

pub took : (n k : ℕ) (cs : List ℕ) (m j : ℕ) → digits_from n k cs ≡ value m j → Took k j cs
unfolding digits_from
took n k [] m j e = took_none k j [] (ap digits_of e)
took n k (c ∷ cs) m j e = go (is_digit c) (ltb index_max (with n c)) refl refl (λ x. took (with n c) (k + 1) cs m j x)
  where
    go : (t u : Bool) → is_digit c ≡ t → ltb index_max (with n c) ≡ u → (digits_from (with n c) (k + 1) cs ≡ value m j → Took (k + 1) j cs)
        → Took k j (c ∷ cs)
    go true false p q ih = took_one k j c cs (omega (arith, digit_is c p)) (ih (rw (p, q) at e))
    go true true p q ih =
        let x : Err (TooLarge (with n c)) ≡ value m j = rw (p, q) at e in
        absurd (let z : ◌≡◌ {A = ℕ} 0 1 = cc in omega arith)
    go false u p q ih =
        let x : value n k ≡ value m j = rw p at e in
        took_none k j (c ∷ cs) (ap digits_of x)

-- a number is consumed only where its first character is a digit
pub record Began (first m j : ℕ) (cs : List ℕ) : Type 0 where
  pub digit : is_digit first ≡ true
  pub rest : Took 0 j cs

pub began : (first : ℕ) (cs : List ℕ) (m j : ℕ) → consume_u32 first cs ≡ value m j → Began first m j cs
unfolding consume_u32
began first cs m j e = go (is_digit first) refl
  where
    go : (t : Bool) → is_digit first ≡ t → Began first m j cs
    go true p = record { digit = p; rest = took (first - zero_digit) 0 cs m j (rw p at e) }
    go false p =
        let x : Err (ExpectedNumber first) ≡ value m j = rw p at e in
        absurd (let z : ◌≡◌ {A = ℕ} 0 1 = cc in omega arith)

-- there are no more characters than bytes
chars_most : (k : ℕ) (l : List ℕ) → length (chars_in k l) ≤ length l
unfolding chars_in
chars_most k [] = omega arith
chars_most (suc k) (b ∷ bs) = omega (arith, chars_most k bs)
chars_most zero (b ∷ bs) = go (decode_head (b ∷ bs)) refl (λ n. chars_most n bs)
  where
    go : (r : Read) → decode_head (b ∷ bs) ≡ r → ((n : ℕ) → length (chars_in n bs) ≤ length bs) → length (chars (b ∷ bs)) ≤ suc (length bs)
    go (Ok (c, n)) p ih = rw p (omega (arith, ih (less n)))
    go (Err Bad) p ih = rw p (omega arith)
    go (Err Cut) p ih = rw p (omega arith)

-- so there are no more digits than bytes
pub digits_most : (s : List ℕ) (at first : ℕ) (r : Result Number FormatError) → r ≡ consume_u32 first (chars (drop at s)) → digits_of r ≤ length s
digits_most s at first (Ok v) e =
    let t = (began first (chars (drop at s)) v.n v.digits (sym e)).rest in
    omega (arith, t.is, t.fits, chars_most 0 (drop at s), length-drop at s)
digits_most s at first (Err o) e = omega arith
