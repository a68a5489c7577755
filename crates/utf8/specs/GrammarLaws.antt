-- The grammar of `Read.antt` against `encode`, one form at a time. `ReadLaws` puts them together; nothing else needs these.
--     Lead, lead         what the length that a lead byte gives says of the byte
--     Second, second_is_lem, is_second    what the tests on the other bytes say
--     Sound              n bytes of l are the encoding of c
--     sound1 .. sound4   bytes that pass the tests are the encoding of the code point that they stand for
--     found1 .. found4   bytes that pass the tests are read as that code point
--     back2 .. back4     the bytes of an encoding stand for the code point that was encoded
-- Assumes nothing.
use Rattle.std.specs.Prelude.{ℕ, suc, ◌+◌, ◌*◌, ◌/◌, ◌%◌, ◌<◌, ◌≤◌, ◌≡◌, List, [], ◌∷◌, ◌++◌, Bool, true, length, drop, Ok}
use Rattle.std.proofs.Common.{arith, eq-or-lt_of_le, sym, ◌∙◌, ⊎_elim, lt-ltb, le-ltb}
use Rattle.base.specs.PickLaws.{by_lt, by_eq}
use Rattle.base.specs.RangeLaws.{inside_is, is_inside}
use Rattle.utf8.specs.Encode.{Scalar, encode}
use Rattle.utf8.specs.EncodeLaws.{encode1, encode2, encode3, encode4}
use Rattle.utf8.specs.Read.{seq_len, second_ok, code2, code3, code4, fourth, third, second, head_of, decode_head}

-- ---- what the tests on the bytes say

pub record Lead (a n : ℕ) : Type 0 where
  pub one : n ≡ 1 → a < 0x80
  pub two : n ≡ 2 → (0xc2 ≤ a) × (a < 0xe0)
  pub three : n ≡ 3 → (0xe0 ≤ a) × (a < 0xf0)
  pub four : n ≡ 4 → (0xf0 ≤ a) × (a < 0xf5)
  pub most : n ≤ 4

pub lead : (a : ℕ) → Lead a (seq_len a)
unfolding seq_len
lead a =
    by_lt (Lead a) a 0x80 (λ h. omega arith)
    (λ h. by_lt (Lead a) a 0xc2 (λ k. omega arith)
    (λ k. by_lt (Lead a) a 0xe0 (λ l. omega arith)
    (λ l. by_lt (Lead a) a 0xf0 (λ m. omega arith) (λ m. by_lt (Lead a) a 0xf5 (λ o. omega arith) (λ o. omega arith)))))

pub record Second (a b : ℕ) : Type 0 where
  pub low : 0x80 ≤ b
  pub high : b ≤ 0xbf
  pub e0 : a ≡ 0xe0 → 0xa0 ≤ b
  pub ed : a ≡ 0xed → b ≤ 0x9f
  pub f0 : a ≡ 0xf0 → 0x90 ≤ b
  pub f4 : a ≡ 0xf4 → b ≤ 0x8f

pub second_is_lem : (a b : ℕ) → second_ok a b ≡ true → Second a b
unfolding second_ok
second_is_lem a b =
    by_eq P a 0xe0 (λ h e. omega (arith, inside_is b 0xa0 0xbf e))
    (λ h. by_eq P a 0xed (λ k e. omega (arith, inside_is b 0x80 0x9f e))
    (λ k. by_eq P a 0xf0 (λ l e. omega (arith, inside_is b 0x90 0xbf e))
    (λ l. by_eq P a 0xf4 (λ m e. omega (arith, inside_is b 0x80 0x8f e)) (λ m e. omega (arith, inside_is b 0x80 0xbf e)))))
  where
    P : Bool → Type 0
    P t = t ≡ true → Second a b

pub is_second : (a b : ℕ) → Second a b → second_ok a b ≡ true
unfolding second_ok
is_second a b s =
    by_eq P a 0xe0 (λ h. is_inside b 0xa0 0xbf (s.e0 h) s.high)
    (λ h. by_eq P a 0xed (λ k. is_inside b 0x80 0x9f s.low (s.ed k))
    (λ k. by_eq P a 0xf0 (λ l. is_inside b 0x90 0xbf (s.f0 l) s.high)
    (λ l. by_eq P a 0xf4 (λ m. is_inside b 0x80 0x8f s.low (s.f4 m)) (λ m. is_inside b 0x80 0xbf s.low s.high))))
  where
    P : Bool → Type 0
    P t = t ≡ true

-- ---- bytes that pass the tests are an encoding

pub record Sound (l : List ℕ) (c n : ℕ) : Type 0 where
  pub scalar : Scalar c
  pub width : length (encode c) ≡ n
  pub bytes : l ≡ encode c ++ drop n l
  pub some : 0 < n
  pub fits : n ≤ length l

pub sound1 : (a : ℕ) (r : List ℕ) → a < 0x80 → Sound (a ∷ r) a 1
sound1 a r h =
    let u = encode1 a h in
    record { scalar = omega arith; width = rw u; bytes = rw u; some = omega arith; fits = omega arith }

pub sound2 : (a b c : ℕ) (r : List ℕ) → c ≡ code2 a b → 0xc2 ≤ a → a < 0xe0 → 0x80 ≤ b → b ≤ 0xbf → Sound (a ∷ b ∷ r) c 2
sound2 a b c r e h k l m =
    let p : 0xc0 + c / 64 ≡ a = omega arith in
    let q : 0x80 + c % 64 ≡ b = omega arith in
    let u : encode c ≡ a ∷ b ∷ [] = encode2 c (omega arith) (omega arith) ∙ cc in
    record { scalar = omega arith; width = rw u; bytes = rw u; some = omega arith; fits = omega arith }

-- the lead byte of a surrogate
surrogate : (c : ℕ) → 0xd800 ≤ c → c ≤ 0xdfff → 0xe0 + c / 4096 ≡ 0xed
surrogate c h k = omega arith

low_tail : (b : ℕ) → 0x80 ≤ b → b ≤ 0x9f → b % 64 ≤ 31
low_tail b h k = omega arith

lead_ed : (a : ℕ) → a ≡ 0xed → a % 16 ≡ 13
lead_ed a e = omega arith

-- 0xed and a second byte up to 0x9f stay below the surrogates
no_surrogate : (a b d c : ℕ) → c ≡ code3 a b d → a ≡ 0xed → 0x80 ≤ b → b ≤ 0x9f → c < 0xd800
no_surrogate a b d c e z h k = omega (arith, low_tail b h k, lead_ed a z)

pub sound3 : (a b d c : ℕ) (r : List ℕ) → c ≡ code3 a b d → 0xe0 ≤ a → a < 0xf0 → Second a b → 0x80 ≤ d → d ≤ 0xbf
    → Sound (a ∷ b ∷ d ∷ r) c 3
sound3 a b d c r e h k s l m =
    let low : 0x800 ≤ c = ⊎_elim (λ x. omega (arith, s.e0 (sym x))) (λ x. omega arith) (eq-or-lt_of_le h) in
    let p : 0xe0 + c / 4096 ≡ a = omega arith in
    let q : 0x80 + c / 64 % 64 ≡ b = omega arith in
    let q' : 0x80 + c % 64 ≡ d = omega arith in
    let u : encode c ≡ a ∷ b ∷ d ∷ [] = encode3 c low (omega arith) ∙ cc in
    record {
      scalar = record {
        small = omega arith;
        whole = λ x y. let z : a ≡ 0xed = sym p ∙ surrogate c x y in omega (arith, no_surrogate a b d c e z s.low (s.ed z));
      };
      width = rw u;
      bytes = rw u;
      some = omega arith;
      fits = omega arith;
    }

pub sound4 : (a b d f c : ℕ) (r : List ℕ) → c ≡ code4 a b d f → 0xf0 ≤ a → a < 0xf5 → Second a b → 0x80 ≤ d → d ≤ 0xbf → 0x80 ≤ f → f ≤ 0xbf
    → Sound (a ∷ b ∷ d ∷ f ∷ r) c 4
sound4 a b d f c r e h k s l m o t =
    let low : 0x10000 ≤ c = ⊎_elim (λ x. omega (arith, s.f0 (sym x))) (λ x. omega arith) (eq-or-lt_of_le h) in
    let high : c < 0x110000 = ⊎_elim (λ x. omega (arith, s.f4 (omega arith))) (λ x. omega arith) (eq-or-lt_of_le k) in
    let p : 0xf0 + c / 262144 ≡ a = omega arith in
    let q : 0x80 + c / 4096 % 64 ≡ b = omega arith in
    let q' : 0x80 + c / 64 % 64 ≡ d = omega arith in
    let q'' : 0x80 + c % 64 ≡ f = omega arith in
    let u : encode c ≡ a ∷ b ∷ d ∷ f ∷ [] = encode4 c low ∙ cc in
    record { scalar = omega arith; width = rw u; bytes = rw u; some = omega arith; fits = omega arith }

-- ---- bytes that pass the tests are read

seq1 : (a : ℕ) → a < 0x80 → seq_len a ≡ 1
unfolding seq_len
seq1 a h = rw (lt-ltb a 0x80 h)

pub seq2 : (a : ℕ) → 0xc2 ≤ a → a < 0xe0 → seq_len a ≡ 2
unfolding seq_len
seq2 a h k = rw (le-ltb a 0x80 (omega arith), le-ltb a 0xc2 h, lt-ltb a 0xe0 k)

pub seq3 : (a : ℕ) → 0xe0 ≤ a → a < 0xf0 → seq_len a ≡ 3
unfolding seq_len
seq3 a h k = rw (le-ltb a 0x80 (omega arith), le-ltb a 0xc2 (omega arith), le-ltb a 0xe0 h, lt-ltb a 0xf0 k)

pub seq4 : (a : ℕ) → 0xf0 ≤ a → a < 0xf5 → seq_len a ≡ 4
unfolding seq_len
seq4 a h k =
    rw (le-ltb a 0x80 (omega arith), le-ltb a 0xc2 (omega arith), le-ltb a 0xe0 (omega arith), le-ltb a 0xf0 h, lt-ltb a 0xf5 k)

pub found1 : (a : ℕ) (r : List ℕ) → a < 0x80 → decode_head (a ∷ r) ≡ Ok (a, 1)
unfolding decode_head head_of
found1 a r h = rw (le-ltb (suc (length r)) 1 (omega arith), seq1 a h)

pub found2 : (a b : ℕ) (r : List ℕ) → 0xc2 ≤ a → a < 0xe0 → Second a b → decode_head (a ∷ b ∷ r) ≡ Ok (code2 a b, 2)
unfolding decode_head head_of second
found2 a b r h k s =
    let n = suc (suc (length r)) in
    rw (le-ltb n 1 (omega arith), seq2 a h k, le-ltb n 2 (omega arith), is_second a b s)

pub found3 : (a b d : ℕ) (r : List ℕ) → 0xe0 ≤ a → a < 0xf0 → Second a b → 0x80 ≤ d → d ≤ 0xbf → decode_head (a ∷ b ∷ d ∷ r) ≡ Ok (code3 a b d, 3)
unfolding decode_head head_of second third
found3 a b d r h k s l m =
    let n = suc (suc (suc (length r))) in
    rw
    (le-ltb n 1 (omega arith), seq3 a h k, le-ltb n 2 (omega arith), is_second a b s, le-ltb n 3 (omega arith), is_inside d 0x80 0xbf l m)

pub found4 : (a b d f : ℕ) (r : List ℕ) → 0xf0 ≤ a → a < 0xf5 → Second a b → 0x80 ≤ d → d ≤ 0xbf → 0x80 ≤ f → f ≤ 0xbf
    → decode_head (a ∷ b ∷ d ∷ f ∷ r) ≡ Ok (code4 a b d f, 4)
unfolding decode_head head_of second third fourth
found4 a b d f r h k s l m o t =
    let n = suc (suc (suc (suc (length r)))) in
    rw (
      le-ltb n 1 (omega arith),
      seq4 a h k,
      le-ltb n 2 (omega arith),
      is_second a b s,
      le-ltb n 3 (omega arith),
      is_inside d 0x80 0xbf l m,
      le-ltb n 4 (omega arith),
      is_inside f 0x80 0xbf o t,
    )

-- ---- the code point is put together again

tail_bits : (x : ℕ) → (0x80 + x % 64) % 64 ≡ x % 64
tail_bits x = omega arith

lead_bits : (x : ℕ) → x < 8 → (0xf0 + x) % 8 ≡ x
lead_bits x h = omega arith

whole4 : (c : ℕ) → c / 262144 * 262144 + c / 4096 % 64 * 4096 + c / 64 % 64 * 64 + c % 64 ≡ c
whole4 c = omega arith

pub back2 : (c : ℕ) → c < 0x800 → code2 (0xc0 + c / 64) (0x80 + c % 64) ≡ c
back2 c h = omega arith

pub back3 : (c : ℕ) → c < 0x10000 → code3 (0xe0 + c / 4096) (0x80 + c / 64 % 64) (0x80 + c % 64) ≡ c
back3 c h = omega arith

pub back4 : (c : ℕ) → c < 0x110000 → code4 (0xf0 + c / 262144) (0x80 + c / 4096 % 64) (0x80 + c / 64 % 64) (0x80 + c % 64) ≡ c
back4 c h = rw (lead_bits (c / 262144) (omega arith), tail_bits (c / 4096), tail_bits (c / 64), tail_bits c) (whole4 c)
