-- Laws of the definitions of numbers at a place of the bytes, where the code stands.
--     exponent_at, fraction_at, tail_at, zero_at, number_at    the definition by the bytes at the place, as the code asks for them
--     exponent_place, tail_place, zero_place, number_place     where it ends is a place again
-- Assumes nothing.
use Rattle.std.specs.Prelude.{ℕ, ◌+◌, ◌<◌, ◌≡◌, refl, Bool, true, false, ◌&&◌, ◌||◌, List, drop}
use native.Mathlib.Omega.{arith}
use Rattle.std.proofs.Common.{sym, ap, ◌∙◌, eq-eqb, ne_eqb, eqb-true}
use Rattle.std.proofs.Math.Dec.{eqb}
use Rattle.base.specs.Pick.{pick}
use Rattle.base.specs.PickLaws.{by_test, split_eq}
use Rattle.base.specs.RangeLaws.{inside_is}
use Rattle.utf8.specs.Chars.{chars}
use Rattle.text.specs.Bytes.{byte_at}
use Rattle.text.specs.Tests.{plus, minus, dot, zero_digit, underscore, letter_b, letter_e, letter_o, letter_x, is_digit, is_binary_digit, is_octal_digit, is_decimal_digit, is_hex_digit}
use Rattle.text.specs.Count.{count_while}
use Rattle.text.specs.FollowLaws.{next_is_lem}
use Rattle.text.specs.CountLaws.{skip_both, skip_run, binary_ascii, octal_ascii, decimal_ascii, hex_ascii}
use Rattle.numbers.specs.Places.{PlaceIn}
use Rattle.numbers.specs.PlaceLaws.{run_end, skip_next, skip_two, next_place, two_places, run_place, next_passes_lem}
use Rattle.numbers.specs.ConsumeNumber.{next_sign, exponent_bytes, is_fraction, fraction_bytes, tail_bytes, zero_bytes, number_bytes}

digit_ascii : (c : ℕ) → is_digit c ≡ true → c < 128
digit_ascii c e = omega (arith, (inside_is c 48 57 e).1)

sign_ascii : (c : ℕ) → (eqb c plus || eqb c minus) ≡ true → c < 128
sign_ascii c e =
    split_eq c plus (λ h. omega arith)
    (λ h. split_eq c minus (λ k. omega arith)
    (λ k. let z : ◌≡◌ {A = ℕ} 0 1 = cc (ne_eqb c plus h, ne_eqb c minus k) in absurd (omega arith)))

or_assoc : (a b c : Bool) → (a || b || c) ≡ (a || (b || c))
or_assoc true b c = refl
or_assoc false b c = refl

and_both : (t : Bool) {a b : Bool} → (t ≡ true → a ≡ b) → (t && a) ≡ (t && b)
and_both true f = f refl
and_both false f = refl

-- the same test on both sides
both : (R : ℕ → ℕ → Type 0) (t : Bool) {a b c d : ℕ} → (t ≡ true → R a c) → (t ≡ false → R b d) → R (pick t a b) (pick t c d)
both R true f g = f refl
both R false f g = g refl

module _ {s : List ℕ} {i : ℕ} (p : PlaceIn s i) where
  next_sign_lem : next_sign (chars (drop i s)) ≡ (eqb (byte_at s i) plus || eqb (byte_at s i) minus)
  next_sign_lem = rw (next_is_lem s i plus p.well (omega arith), next_is_lem s i minus p.well (omega arith))

  -- a byte that is the letter d
  letter : (d : ℕ) → d < 128 → eqb (byte_at s i) d ≡ true → byte_at s i < 128
  letter d h e = omega (arith, eqb-true (byte_at s i) d e)

  -- a letter, and the run after it
  letter_run : (test : ℕ → Bool) → byte_at s i < 128 → i + (1 + count_while test (drop 1 (chars (drop i s)))) ≡ run_end test s (i + 1)
  letter_run test h = rw (skip_next p h).rest (omega arith)

-- ---- the exponent

module _ {s : List ℕ} {i : ℕ} (p : PlaceIn s i) where
  pub exponent_at : i + exponent_bytes (chars (drop i s))
      ≡ pick (eqb (byte_at s i) letter_e)
      (pick (eqb (byte_at s (i + 1)) plus || eqb (byte_at s (i + 1)) minus) (run_end is_decimal_digit s (i + 2)) (run_end is_decimal_digit s (i + 1)))
      i
  unfolding exponent_bytes
  exponent_at =
      rw (next_is_lem s i letter_e p.well (omega arith))
      (both (λ a c. i + a ≡ c) (eqb (byte_at s i) letter_e)
      (λ e. let h = letter p letter_e (omega arith) e in
      rw ((skip_next p h).rest, next_sign_lem (next_place p h))
      (both (λ a c. i + a ≡ c) (eqb (byte_at s (i + 1)) plus || eqb (byte_at s (i + 1)) minus)
      (λ f. rw (skip_two p h (sign_ascii _ f)).rest (omega arith)) (λ f. omega arith)))
      (λ e. omega arith))

  pub exponent_place : PlaceIn s (i + exponent_bytes (chars (drop i s)))
  exponent_place =
      rw exponent_at
      (by_test (PlaceIn s) (eqb (byte_at s i) letter_e)
      (λ e. let h = letter p letter_e (omega arith) e in
      by_test (PlaceIn s) (eqb (byte_at s (i + 1)) plus || eqb (byte_at s (i + 1)) minus)
      (λ f. run_place (two_places p h (sign_ascii _ f)) decimal_ascii) (λ f. run_place (next_place p h) decimal_ascii))
      (λ e. p))

-- the byte after the exponent at i
abbrev pub exponent_end : List ℕ → ℕ → ℕ
exponent_end s i = i + exponent_bytes (chars (drop i s))

-- ---- the fraction

module _ {s : List ℕ} {i : ℕ} (p : PlaceIn s i) where
  pub fraction_at : is_fraction (chars (drop i s))
      ≡ (is_digit (byte_at s i)
      || (eqb (byte_at s i) letter_e
      && (is_digit (byte_at s (i + 1))
      || (eqb (byte_at s (i + 1)) underscore || (eqb (byte_at s (i + 1)) plus || eqb (byte_at s (i + 1)) minus)))))
  unfolding is_fraction is_decimal_digit
  fraction_at =
      rw (next_passes_lem is_digit digit_ascii p, next_is_lem s i letter_e p.well (omega arith))
      (ap (λ (t : Bool). is_digit (byte_at s i) || t)
      (and_both (eqb (byte_at s i) letter_e)
      (λ e. let h = letter p letter_e (omega arith) e in
      let q = next_place p h in
      rw ((skip_next p h).rest, next_passes_lem is_decimal_digit decimal_ascii q, next_sign_lem q)
      (or_assoc (is_digit (byte_at s (i + 1))) (eqb (byte_at s (i + 1)) underscore) _))))

-- ---- after the whole part

module _ {s : List ℕ} {i : ℕ} (p : PlaceIn s i) where
  pub tail_at : i + tail_bytes (chars (drop i s))
      ≡ pick (eqb (byte_at s i) dot) (pick (is_fraction (chars (drop (i + 1) s))) (exponent_end s (run_end is_decimal_digit s (i + 1))) i) (exponent_end s i)
  unfolding tail_bytes fraction_bytes
  tail_at =
      rw (next_is_lem s i dot p.well (omega arith))
      (both (λ a c. i + a ≡ c) (eqb (byte_at s i) dot)
      (λ e. let h = letter p dot (omega arith) e in
      rw (skip_next p h).rest
      (both (λ a c. i + a ≡ c) (is_fraction (chars (drop (i + 1) s)))
      (λ f. rw (skip_run decimal_ascii s (i + 1) (next_place p h).well).rest (omega arith)) (λ f. omega arith)))
      (λ e. refl))

  pub tail_place : PlaceIn s (i + tail_bytes (chars (drop i s)))
  tail_place =
      rw tail_at
      (by_test (PlaceIn s) (eqb (byte_at s i) dot)
      (λ e. by_test (PlaceIn s) (is_fraction (chars (drop (i + 1) s)))
      (λ f. exponent_place (run_place (next_place p (letter p dot (omega arith) e)) decimal_ascii)) (λ f. p))
      (λ e. exponent_place p))

  pub zero_at : i + zero_bytes (chars (drop i s))
      ≡ pick (eqb (byte_at s i) letter_b) (run_end is_binary_digit s (i + 1))
      (pick (eqb (byte_at s i) letter_o) (run_end is_octal_digit s (i + 1))
      (pick (eqb (byte_at s i) letter_x) (run_end is_hex_digit s (i + 1)) (i + tail_bytes (chars (drop i s)))))
  unfolding zero_bytes
  zero_at =
      rw (
        next_is_lem s i letter_b p.well (omega arith),
        next_is_lem s i letter_o p.well (omega arith),
        next_is_lem s i letter_x p.well (omega arith),
      )
      (both (λ a c. i + a ≡ c) (eqb (byte_at s i) letter_b) (λ e. letter_run p is_binary_digit (letter p letter_b (omega arith) e))
      (λ _. both (λ a c. i + a ≡ c) (eqb (byte_at s i) letter_o) (λ e. letter_run p is_octal_digit (letter p letter_o (omega arith) e))
      (λ _. both (λ a c. i + a ≡ c) (eqb (byte_at s i) letter_x) (λ e. letter_run p is_hex_digit (letter p letter_x (omega arith) e)) (λ _. refl))))

  letter_place : (d : ℕ) {test : ℕ → Bool} → ((c : ℕ) → test c ≡ true → c < 128) → d < 128 → eqb (byte_at s i) d ≡ true → PlaceIn s (run_end test s (i + 1))
  letter_place d ascii h e = run_place (next_place p (letter p d h e)) ascii

  pub zero_place : PlaceIn s (i + zero_bytes (chars (drop i s)))
  zero_place =
      rw zero_at
      (by_test (PlaceIn s) (eqb (byte_at s i) letter_b) (letter_place letter_b binary_ascii (omega arith))
      (λ _. by_test (PlaceIn s) (eqb (byte_at s i) letter_o) (letter_place letter_o octal_ascii (omega arith))
      (λ _. by_test (PlaceIn s) (eqb (byte_at s i) letter_x) (letter_place letter_x hex_ascii (omega arith)) (λ _. tail_place))))

-- ---- the number

-- one more than n is 1 where n is 0
one_more_lem : (i n : ℕ) → eqb (1 + n) 1 ≡ eqb (i + 1 + n) (i + 1)
one_more_lem i n =
    split_eq n 0 (λ e. eq-eqb (1 + n) 1 (omega arith) ∙ sym (eq-eqb (i + 1 + n) (i + 1) (omega arith)))
    (λ e. ne_eqb (1 + n) 1 (λ k. e (omega arith)) ∙ sym (ne_eqb (i + 1 + n) (i + 1) (λ k. e (omega arith))))

-- the byte after the whole part
abbrev pub whole_end : List ℕ → ℕ → ℕ
whole_end s i = run_end is_decimal_digit s (i + 1)

module _ {s : List ℕ} {i : ℕ} (p : PlaceIn s i) (h : byte_at s i < 128) where
  pub number_at : i + number_bytes (chars (drop i s))
      ≡ pick (eqb (byte_at s i) zero_digit && eqb (whole_end s i) (i + 1)) (whole_end s i + zero_bytes (chars (drop (whole_end s i) s)))
      (whole_end s i + tail_bytes (chars (drop (whole_end s i) s)))
  unfolding number_bytes
  number_at =
      let k = skip_next p h in
      let n = count_while is_decimal_digit (chars (drop (i + 1) s)) in
      let m = skip_both s i 1 n k (skip_run decimal_ascii s (i + 1) k.well) in
      let q : i + (1 + n) ≡ i + 1 + n = omega arith in
      rw (k.rest, next_is_lem s i zero_digit p.well (omega arith), m.rest, q, one_more_lem i n)
      (both (λ a c. i + (1 + n + a) ≡ c) (eqb (byte_at s i) zero_digit && eqb (whole_end s i) (i + 1)) (λ e. omega arith) (λ e. omega arith))

  pub whole_place : PlaceIn s (whole_end s i)
  whole_place = run_place (next_place p h) decimal_ascii

  pub number_place : PlaceIn s (i + number_bytes (chars (drop i s)))
  number_place =
      rw number_at
      (by_test (PlaceIn s) (eqb (byte_at s i) zero_digit && eqb (whole_end s i) (i + 1)) (λ _. zero_place whole_place) (λ _. tail_place whole_place))
