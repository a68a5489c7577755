-- Operations on the number of some bytes, byte by byte, and the first byte of which the highest bit is set.
--     and_cat, or_cat, xor_cat       the lowest byte and the others apart
--     and_bytes, or_bytes, xor_bytes, sum_bytes, each_bytes     of all bytes
--     outs_bytes                     the code's bits are those of bytes that are no parts of a name
--     zeros_parts                    so many zeros at the end, so many parts at the start
--     counts_parts                   of eight bytes at a place
-- Assumes nothing.
use Rattle.std.specs.Prelude.{ℕ, zero, suc, ◌+◌, ◌*◌, ◌/◌, ◌%◌, ◌≤◌, ◌<◌, ◌≡◌, Bool, true, false, eqb, ltb, length, get_or, take, drop}
use Rattle.std.proofs.Common.{arith, sym, ◌∙◌, length-drop, get_or-take, get_or-drop, length-take-le, eqb-true, ltb-true}
use Rattle.std.proofs.Math.Path.{refl, ap}
use mathlib.Core.List.{List, [], ◌∷◌}
use Rattle.std.specs.Int.Bits.{bit_and, bit_or, bit_xor}
use Rattle.std.proofs.lemmas.Nat.{and_block, or_block, xor_block}
use Rattle.std.specs.Int.Count.{count_trailing_zeros}
use Rattle.base.specs.All.{all_good}
use Rattle.base.specs.AllLaws.{good_at}
use Rattle.base.specs.Pick.{pick}
use Rattle.base.specs.PickLaws.{by_test}
use Rattle.base.specs.Range.{inside}
use Rattle.fitness.specs.Ascii.{is_name_part}
use Rattle.skip.specs.Skip.{Counts}
use Rattle.fast_keywords.specs.Slots.{number}
use Rattle.fast_keywords.specs.SlotsLaws.{Bytes}
use Rattle.name_words.specs.Outs.{outs_by, each, outs_of}

-- ---- the lowest byte

module _ (a c x y : ℕ) (h : a < 256) (k : c < 256) where
  turned : (a c : ℕ) → a + 256 * c ≡ c * 256 + a
  turned a c = omega arith

  and_cat : bit_and (a + 256 * x) (c + 256 * y) ≡ bit_and a c + 256 * bit_and x y
  and_cat = rw (turned a x, turned c y) (and_block 8 x y a c h k ∙ sym (turned (bit_and a c) (bit_and x y)))

  or_cat : bit_or (a + 256 * x) (c + 256 * y) ≡ bit_or a c + 256 * bit_or x y
  or_cat = rw (turned a x, turned c y) (or_block 8 x y a c h k ∙ sym (turned (bit_or a c) (bit_or x y)))

  xor_cat : bit_xor (a + 256 * x) (c + 256 * y) ≡ bit_xor a c + 256 * bit_xor x y
  xor_cat = rw (turned a x, turned c y) (xor_block 8 x y a c h k ∙ sym (turned (bit_xor a c) (bit_xor x y)))

-- ---- all bytes

-- the number of what f makes of each byte
unfoldable pub bytewise : (ℕ → ℕ) → List ℕ → ℕ
bytewise f [] = 0
bytewise f (b ∷ l) = f b + 256 * bytewise f l

-- f makes bytes of bytes
abbrev Small : (ℕ → ℕ) → Type 0
Small f = (b : ℕ) → b < 256 → f b < 256

rest : (b : ℕ) (l : List ℕ) → Bytes (b ∷ l) → Bytes l
rest b l p i h = p (suc i) (omega arith)

module _ (f g : ℕ → ℕ) (u : Small f) (v : Small g) where
  and_bytes : (l : List ℕ) → Bytes l → bit_and (bytewise f l) (bytewise g l) ≡ bytewise (λ b. bit_and (f b) (g b)) l
  unfolding bytewise
  and_bytes [] p = refl
  and_bytes (b ∷ l) p =
      let h = p 0 (omega arith) in
      and_cat (f b) (g b) (bytewise f l) (bytewise g l) (u b h) (v b h)
      ∙ ap (λ (x : ℕ). bit_and (f b) (g b) + 256 * x) (and_bytes l (rest b l p))

  or_bytes : (l : List ℕ) → Bytes l → bit_or (bytewise f l) (bytewise g l) ≡ bytewise (λ b. bit_or (f b) (g b)) l
  unfolding bytewise
  or_bytes [] p = refl
  or_bytes (b ∷ l) p =
      let h = p 0 (omega arith) in
      or_cat (f b) (g b) (bytewise f l) (bytewise g l) (u b h) (v b h) ∙ ap (λ (x : ℕ). bit_or (f b) (g b) + 256 * x) (or_bytes l (rest b l p))

  xor_bytes : (l : List ℕ) → Bytes l → bit_xor (bytewise f l) (bytewise g l) ≡ bytewise (λ b. bit_xor (f b) (g b)) l
  unfolding bytewise
  xor_bytes [] p = refl
  xor_bytes (b ∷ l) p =
      let h = p 0 (omega arith) in
      xor_cat (f b) (g b) (bytewise f l) (bytewise g l) (u b h) (v b h)
      ∙ ap (λ (x : ℕ). bit_xor (f b) (g b) + 256 * x) (xor_bytes l (rest b l p))

sum_bytes : (f g : ℕ → ℕ) (l : List ℕ) → bytewise f l + bytewise g l ≡ bytewise (λ b. f b + g b) l
unfolding bytewise
sum_bytes f g [] = refl
sum_bytes f g (b ∷ l) = omega (arith, sum_bytes f g l)

number_bytes_lem : (l : List ℕ) → number l ≡ bytewise (λ b. b) l
unfolding bytewise number
number_bytes_lem [] = refl
number_bytes_lem (b ∷ l) = ap (λ (x : ℕ). b + 256 * x) (number_bytes_lem l)

each_bytes : (c : ℕ) (l : List ℕ) → each (length l) c ≡ bytewise (λ _. c) l
unfolding bytewise each
each_bytes c [] = refl
each_bytes c (b ∷ l) = ap (λ (x : ℕ). c + 256 * x) (each_bytes c l)

same_bytes : (f g : ℕ → ℕ) → ((b : ℕ) → b < 256 → f b ≡ g b) → (l : List ℕ) → Bytes l → bytewise f l ≡ bytewise g l
unfolding bytewise
same_bytes f g e [] p = refl
same_bytes f g e (b ∷ l) p = rw (e b (p 0 (omega arith)), same_bytes f g e l (rest b l p))

-- ---- the bits

-- by a computed test of all bytes
small_by : (f : ℕ → ℕ) → all_good (λ b. ltb (f b) 256) 256 ≡ true → Small f
small_by f e b h = ltb-true (f b) 256 (good_at (λ b. ltb (f b) 256) 256 b h e)

-- the same bits of one byte
abbrev low : ℕ → ℕ
low b = bit_and b 127

abbrev small : ℕ → ℕ
small b = bit_or (low b) 32

abbrev letters : ℕ → ℕ
letters b = bit_xor (small b + 31) (small b + 5)

abbrev digits : ℕ → ℕ
digits b = bit_xor (low b + 80) (low b + 70)

abbrev underscores : ℕ → ℕ
underscores b = bit_xor (low b + 33) (low b + 32)

abbrev parts : ℕ → ℕ
parts b = bit_xor (letters b) (bit_xor (digits b) (underscores b))

abbrev highest : ℕ → ℕ
highest b = bit_or (bit_xor (parts b) 128) b

module _ (l : List ℕ) (p : Bytes l) where
  abbrev all : (ℕ → ℕ) → ℕ
  all f = bytewise f l

  -- a range of what is at least so large and less large
  range : (f : ℕ → ℕ) (m n : ℕ) → all_good (λ b. ltb (f b + m) 256) 256 ≡ true → all_good (λ b. ltb (f b + n) 256) 256 ≡ true
      → bit_xor (all f + all (λ _. m)) (all f + all (λ _. n)) ≡ all (λ b. bit_xor (f b + m) (f b + n))
  range f m n h k =
      rw (sum_bytes f (λ _. m) l, sum_bytes f (λ _. n) l)
      (xor_bytes (λ b. f b + m) (λ b. f b + n) (small_by (λ b. f b + m) h) (small_by (λ b. f b + n) k) l p)

  bits : outs_by (λ c. all (λ _. c)) (all (λ b. b)) ≡ all (λ b. bit_and (highest b) 128)
  unfolding outs_by all_good
  bits =
      rw (
        and_bytes (λ b. b) (λ _. 127) (small_by (λ b. b) refl) (small_by (λ _. 127) refl) l p,
        or_bytes low (λ _. 32) (small_by low refl) (small_by (λ _. 32) refl) l p,
        range small 31 5 refl refl,
        range low 80 70 refl refl,
        range low 33 32 refl refl,
        xor_bytes digits underscores (small_by digits refl) (small_by underscores refl) l p,
        xor_bytes letters (λ b. bit_xor (digits b) (underscores b)) (small_by letters refl) (small_by (λ b. bit_xor (digits b) (underscores b)) refl) l p,
        xor_bytes parts (λ _. 128) (small_by parts refl) (small_by (λ _. 128) refl) l p,
        or_bytes (λ b. bit_xor (parts b) 128) (λ b. b) (small_by (λ b. bit_xor (parts b) 128) refl) (small_by (λ b. b) refl) l p,
      )
      (and_bytes highest (λ _. 128) (small_by highest refl) (small_by (λ _. 128) refl) l p)

-- the highest bit, where a byte is no part of a name
abbrev pub out_byte : ℕ → ℕ
out_byte b = pick (is_name_part b) 0 128

told : (b : ℕ) → b < 256 → bit_and (highest b) 128 ≡ out_byte b
unfolding inside all_good
told b h = eqb-true (bit_and (highest b) 128) (out_byte b) (good_at (λ b. eqb (bit_and (highest b) 128) (out_byte b)) 256 b h refl)

pub outs_bytes : (l : List ℕ) → Bytes l → outs_by (each (length l)) (number l) ≡ bytewise out_byte l
unfolding outs_by
outs_bytes l p =
    rw (number_bytes_lem l, each_bytes 127 l, each_bytes 32 l, each_bytes 31 l, each_bytes 5 l, each_bytes 80 l, each_bytes 70 l, each_bytes 33 l, each_bytes 128 l)
    (bits l p ∙ same_bytes (λ b. bit_and (highest b) 128) out_byte told l p)

-- ---- zeros at the end

-- m more than k, and m times twice x
abbrev more : ℕ → ℕ → ℕ
more zero k = k
more (suc m) k = suc (more m k)

abbrev twice : ℕ → ℕ → ℕ
twice zero x = x
twice (suc m) x = 2 * twice m x

even_zeros : (k x : ℕ) → count_trailing_zeros (suc k) (2 * x) ≡ suc (count_trailing_zeros k x)
unfolding count_trailing_zeros
even_zeros k x =
    let e : 2 * x % 2 ≡ 0 = omega arith in
    let h : 2 * x / 2 ≡ x = omega arith in
    rw (e, h)

odd_zeros : (k x : ℕ) → count_trailing_zeros (suc k) (2 * x + 1) ≡ 0
unfolding count_trailing_zeros
odd_zeros k x =
    let e : (2 * x + 1) % 2 ≡ 1 = omega arith in
    rw e

shifted : (m k x : ℕ) → count_trailing_zeros (more m k) (twice m x) ≡ more m (count_trailing_zeros k x)
shifted zero k x = refl
shifted (suc m) k x = even_zeros (more m k) (twice m x) ∙ ap suc (shifted m k x)

-- a byte that is 0, and one that has its highest bit
byte_zeros : (k x : ℕ) → count_trailing_zeros (more 8 k) (0 + 256 * x) ≡ more 8 (count_trailing_zeros k x)
byte_zeros k x =
    let e : 0 + 256 * x ≡ twice 8 x = omega arith in
    rw e (shifted 8 k x)

bit_zeros : (k x : ℕ) → count_trailing_zeros (more 8 k) (128 + 256 * x) ≡ 7
bit_zeros k x =
    let e : 128 + 256 * x ≡ twice 7 (2 * x + 1) = omega arith in
    rw e (shifted 7 (suc k) (2 * x + 1) ∙ ap (more 7) (odd_zeros k x))

-- how many bytes at the start are parts of a name
abbrev pub parts_in : List ℕ → ℕ
parts_in [] = 0
parts_in (b ∷ l) = pick (is_name_part b) (suc (parts_in l)) 0

pub zeros_parts : (l : List ℕ) → count_trailing_zeros (8 * length l) (bytewise out_byte l) / 8 ≡ parts_in l
unfolding bytewise count_trailing_zeros
zeros_parts [] = refl
zeros_parts (b ∷ l) =
    let e : 8 * suc (length l) ≡ more 8 (8 * length l) = omega arith in
    rw e
    (by_part (is_name_part b) (8 * length l) (bytewise out_byte l) (zeros_parts l))
  where
    by_part : (t : Bool) (k x : ℕ) {n : ℕ} → count_trailing_zeros k x / 8 ≡ n → count_trailing_zeros (more 8 k) (pick t 0 128 + 256 * x) / 8 ≡ pick t (suc n) 0
    by_part true k x f = rw (byte_zeros k x) (omega (arith, f))
    by_part false k x f = rw (bit_zeros k x)

-- ---- parts at a place

parts_few : (l : List ℕ) → parts_in l ≤ length l
parts_few [] = omega arith
parts_few (b ∷ l) = by_test (λ (n : ℕ). n ≤ suc (length l)) (is_name_part b) (λ _. omega (arith, parts_few l)) (λ _. omega arith)

no_two : {A : Type 0} → true ≡ false → A
no_two e = let z : ◌≡◌ {A = ℕ} 0 1 = cc in absurd (omega arith)

parts_stay : (l : List ℕ) (j : ℕ) → j < parts_in l → is_name_part (get_or l j 0) ≡ true
parts_stay [] j h = absurd (omega arith)
parts_stay (b ∷ l) zero h = by_test (λ (n : ℕ). 0 < n → is_name_part b ≡ true) (is_name_part b) (λ t _. t) (λ _ k. absurd (omega arith)) h
parts_stay (b ∷ l) (suc j) h =
    by_test (λ (n : ℕ). suc j < n → is_name_part (get_or l j 0) ≡ true) (is_name_part b) (λ _ k. parts_stay l j (omega arith)) (λ _ k. absurd (omega arith)) h

parts_out : (l : List ℕ) → parts_in l < length l → is_name_part (get_or l (parts_in l) 0) ≡ false
parts_out [] h = absurd (omega arith)
parts_out (b ∷ l) h =
    by_test (λ (n : ℕ). n < suc (length l) → is_name_part (get_or (b ∷ l) n 0) ≡ false) (is_name_part b) (λ _ k. parts_out l (omega arith)) (λ t _. t) h

-- of the eight bytes at i, by the number that they are and its bits
module _ (s : List ℕ) (i : ℕ) (bytes : (j : ℕ) → get_or s j 0 < 256) (h : i + 8 ≤ length s) {word out : ℕ}
    (e : word ≡ number (take 8 (drop i s))) (f : out ≡ outs_of word) where
  abbrev there : List ℕ
  there = take 8 (drop i s)

  long : length there ≡ 8
  long = length-take-le 8 (drop i s) (omega (arith, length-drop i s))

  byte : (j : ℕ) → j < 8 → get_or s (i + j) 0 ≡ get_or there j 0
  byte j k = sym (get_or-take 8 (drop i s) j 0 k ∙ get_or-drop i s j 0)

  small_there : Bytes there
  small_there j k = rw (sym (byte j (omega (arith, long)))) (bytes (i + j))

  counted : count_trailing_zeros 64 out / 8 ≡ parts_in there
  counted =
      ap (λ (x : ℕ). count_trailing_zeros 64 x / 8)
      (f ∙ ap outs_of e ∙ ap (λ (n : ℕ). outs_by (each n) (number there)) (sym long) ∙ outs_bytes there small_there)
      ∙ ap (λ (n : ℕ). count_trailing_zeros (8 * n) (bytewise out_byte there) / 8) (sym long)
      ∙ zeros_parts there

  pub counts_parts : {n : ℕ} → n ≡ count_trailing_zeros 64 out / 8 → Counts is_name_part s i 8 8 n
  counts_parts {n} g =
      let d : n ≡ parts_in there = g ∙ counted in
      record {
        less = omega (arith, d, parts_few there, long);
        stays = λ j a b. ap is_name_part (byte j b) ∙ parts_stay there j (omega (arith, d));
        out = λ a. ap is_name_part (byte n a) ∙ ap (λ (x : ℕ). is_name_part (get_or there x 0)) d ∙ parts_out there (omega (arith, d, long));
      }
