-- Laws of `digits`.
--     digits_small, digits_more       its two equations: use these, and not the definition's text
--     one_more_lem, few_digits, some_digits    how many there are
--     is_digit_lem                        each of ten characters is a digit
--     Taken, number_taken             whatever `consume_u32` reads as n is the digits of n, or longer
--     Spelled, spelled, number_read   `consume_u32` reads the digits of n as n, where no digit follows
-- Assumes nothing.
use Rattle.std.specs.Prelude.{ℕ, zero, suc, ◌+◌, ◌-◌, ◌/◌, ◌%◌, ◌<◌, ◌≤◌, ◌≡◌, refl, Bool, true, false, List, [], ◌∷◌, ◌++◌, length, take, Err}
use Rattle.std.proofs.Common.{arith, sym, ap, subst, ◌∙◌, append_assoc, append-nil, length-append, lt-ltb, le-ltb, ne_eqb}
use Rattle.base.specs.PickLaws.{split_lt}
use Rattle.base.specs.RangeLaws.{is_inside}
use Rattle.format_options.specs.Letters.{zero_digit, is_sign, is_digit}
use Rattle.format_options.specs.LettersLaws.{digit_is}
use Rattle.format_number.specs.Number.{value, index_max, peeked, digits_from, consume_u32}
use Rattle.format_number.specs.NumberLaws.{same_value, with, step_more, step_large, step_stop}
use Rattle.format_options.specs.declared.FormatError.TheVariants.{TooLarge, ExpectedNumber}
use Rattle.decimal.specs.Decimal.{digits_in, digits}
use Rattle.decimal.specs.Over.{Over, same, longer, over_append}

-- ---- the equations

in_small : (most n : ℕ) → n < 10 → digits_in most n ≡ (zero_digit + n) ∷ []
unfolding digits_in
in_small zero n h = refl
in_small (suc most) n h = rw (lt-ltb n 10 h, digits_in)

in_more : (most n : ℕ) → 10 ≤ n → digits_in (suc most) n ≡ digits_in most (n / 10) ++ (zero_digit + n % 10) ∷ []
unfolding digits_in
in_more most n h = rw (le-ltb n 10 h, digits_in)

-- how often it may be done does not matter, where it is often enough
in_same : (f g n : ℕ) → n ≤ f → n ≤ g → digits_in f n ≡ digits_in g n
in_same zero g n h k = in_small zero n (omega arith) ∙ sym (in_small g n (omega arith))
in_same (suc f) zero n h k = in_small (suc f) n (omega arith) ∙ sym (in_small zero n (omega arith))
in_same (suc f) (suc g) n h k =
    split_lt n 10 (λ s. in_small (suc f) n s ∙ sym (in_small (suc g) n s))
    (λ l. in_more f n l
    ∙ ap (λ (ds : List ℕ). ds ++ (zero_digit + n % 10) ∷ []) (in_same f g (n / 10) (omega arith) (omega arith))
    ∙ sym (in_more g n l))

pub digits_small : (n : ℕ) → n < 10 → digits n ≡ (zero_digit + n) ∷ []
digits_small n h = in_small n n h

pub digits_more : (n : ℕ) → 10 ≤ n → digits n ≡ digits (n / 10) ++ (zero_digit + n % 10) ∷ []
digits_more zero h = absurd (omega arith)
digits_more (suc m) h =
    in_more m (suc m) h
    ∙ ap (λ (ds : List ℕ). ds ++ (zero_digit + suc m % 10) ∷ []) (in_same m (suc m / 10) (suc m / 10) (omega arith) (omega arith))

-- ---- how many

pub one_more_lem : (n : ℕ) → 10 ≤ n → length (digits n) ≡ length (digits (n / 10)) + 1
one_more_lem n h = omega (arith, ap length (digits_more n h), length-append (digits (n / 10)) ((zero_digit + n % 10) ∷ []))

few : (most n : ℕ) → n ≤ most → length (digits n) ≤ n + 1
few zero n h = omega (arith, ap length (digits_small n (omega arith)))
few (suc most) n h =
    split_lt n 10 (λ l. omega (arith, ap length (digits_small n l))) (λ l. omega (arith, one_more_lem n l, few most (n / 10) (omega arith)))

pub few_digits : (n : ℕ) → length (digits n) ≤ n + 1
few_digits n = few n n (omega arith)

some : (most n : ℕ) → n ≤ most → 0 < length (digits n)
some zero n h = omega (arith, ap length (digits_small n (omega arith)))
some (suc most) n h = split_lt n 10 (λ l. omega (arith, ap length (digits_small n l))) (λ l. omega (arith, one_more_lem n l))

pub some_digits : (n : ℕ) → 0 < length (digits n)
some_digits n = some n n (omega arith)

-- ---- a digit

pub is_digit_lem : (c : ℕ) → 48 ≤ c → c ≤ 57 → is_digit c ≡ true
unfolding is_digit
is_digit_lem c h k = is_inside c zero_digit 57 h k

-- ---- what is read as n

-- the digits p, read as n, with one more
more_over : (n c : ℕ) (p : List ℕ) → is_digit c ≡ true → 0 < length p → Over (digits n) p → Over (digits (with n c)) (p ++ c ∷ [])
more_over n c p d h o =
    let b = digit_is c d in
    split_lt (with n c) 10
    (λ s. longer (omega (arith, ap length (digits_small (with n c) s), length-append p (c ∷ []))))
    (λ l.
    let q : with n c / 10 ≡ n = omega arith in
    let r : zero_digit + with n c % 10 ≡ c = omega arith in
    let whole : digits (with n c) ≡ digits n ++ c ∷ [] =
    digits_more (with n c) l ∙ ap (λ (m : ℕ). digits m ++ (zero_digit + with n c % 10) ∷ []) q ∙ ap (λ (x : ℕ). digits n ++ x ∷ []) r in
    subst (λ (ds : List ℕ). Over ds (p ++ c ∷ [])) (sym whole) (over_append o (same refl)))

-- after p, `digits_from` took j - k characters of cs more, and came to m
pub record Taken (p cs : List ℕ) (m k j : ℕ) : Type 0 where
  pub count : ℕ
  pub is : j ≡ k + count
  pub within : count ≤ length cs
  pub small : m ≤ index_max
  pub over : Over (digits m) (p ++ take count cs)

taken_none : (n k : ℕ) (cs p : List ℕ) (m j : ℕ) → n ≤ index_max → Over (digits n) p → value n k ≡ value m j → Taken p cs m k j
taken_none n k cs p m j s o e =
    let q = same_value n k m j e in
    let a = q.0 in
    let b = q.1 in
    record {
      count = 0;
      is = omega arith;
      within = omega arith;
      small = omega arith;
      over = rw append-nil (subst (λ (x : ℕ). Over (digits x) p) a o);
    }

taken_one : (k c : ℕ) (cs p : List ℕ) (m j : ℕ) → Taken (p ++ c ∷ []) cs m (k + 1) j → Taken p (c ∷ cs) m k j
taken_one k c cs p m j t =
    record {
      count = suc t.count;
      is = omega (arith, t.is);
      within = omega (arith, t.within);
      small = t.small;
      over = subst (Over (digits m)) (append_assoc p (c ∷ []) (take t.count cs)) t.over;
    }

taken : (n k : ℕ) (cs p : List ℕ) (m j : ℕ) → n ≤ index_max → 0 < length p → Over (digits n) p → digits_from n k cs ≡ value m j → Taken p cs m k j
unfolding digits_from
taken n k [] p m j s h o e = taken_none n k [] p m j s o e
taken n k (c ∷ cs) p m j s h o e =
    go (is_digit c) refl (λ i v x. taken (with n c) (k + 1) cs (p ++ c ∷ []) m j i (omega (arith, length-append p (c ∷ []))) v x)
  where
    go : (t : Bool) → is_digit c ≡ t
        → (with n c ≤ index_max → Over (digits (with n c)) (p ++ c ∷ []) → digits_from (with n c) (k + 1) cs ≡ value m j → Taken (p ++ c ∷ []) cs m (k + 1) j)
        → Taken p (c ∷ cs) m k j
    go true t ih =
        split_lt index_max (with n c)
        (λ l. let x : Err (TooLarge (with n c)) ≡ value m j = sym (step_large n k c cs t l) ∙ e in
        absurd (let z : ◌≡◌ {A = ℕ} 0 1 = cc in omega arith))
        (λ l. taken_one k c cs p m j (ih l (more_over n c p t h o) (sym (step_more n k c cs t l) ∙ e)))
    go false t ih = taken_none n k (c ∷ cs) p m j s o (rw t at e)

pub record Number (c : ℕ) (cs : List ℕ) (m j : ℕ) : Type 0 where
  pub digit : is_digit c ≡ true
  pub within : j ≤ length cs
  pub small : m ≤ index_max
  pub over : Over (digits m) (c ∷ take j cs)

pub number_taken : (c : ℕ) (cs : List ℕ) (m j : ℕ) → consume_u32 c cs ≡ value m j → Number c cs m j
unfolding consume_u32
number_taken c cs m j e = go (is_digit c) refl
  where
    go : (t : Bool) → is_digit c ≡ t → Number c cs m j
    go true t =
        let b = digit_is c t in
        let one : digits (c - zero_digit) ≡ c ∷ [] =
        digits_small (c - zero_digit) (omega arith) ∙ ap (λ (x : ℕ). x ∷ []) (let q : zero_digit + (c - zero_digit) ≡ c = omega arith in q) in
        let v = taken (c - zero_digit) 0 cs (c ∷ []) m j (omega arith) (omega arith) (same (sym one)) (rw t at e) in
        let q : v.count ≡ j = omega (arith, v.is) in
        record {
          digit = t;
          within = omega (arith, v.within);
          small = v.small;
          over = subst (λ (x : ℕ). Over (digits m) (c ∷ take x cs)) q v.over;
        }
    go false t =
        let x : Err (ExpectedNumber c) ≡ value m j = rw t at e in
        absurd (let z : ◌≡◌ {A = ℕ} 0 1 = cc in omega arith)

-- ---- the digits of n are read as n

pub record Spelled (n : ℕ) : Type 0 where
  pub first : ℕ
  pub more : List ℕ
  pub is : digits n ≡ first ∷ more
  pub digit : is_digit first ≡ true
  -- no zero in front
  pub positive : 0 < n → zero_digit < first
  pub alone : n < 10 → more ≡ []
  -- and no sign behind the first
  pub no_sign : (rest : List ℕ) → is_sign (peeked rest) ≡ false → is_sign (peeked (more ++ rest)) ≡ false
  pub reads : (rest : List ℕ) → digits_from (first - zero_digit) 0 (more ++ rest) ≡ digits_from n (length more) rest

-- a digit is no sign
digit_next : (c : ℕ) (rest : List ℕ) → 48 ≤ c → c ≤ 57 → is_sign (peeked (c ∷ rest)) ≡ false
unfolding is_sign peeked
digit_next c rest h k = rw (ne_eqb c 60 (λ e. omega arith), ne_eqb c 94 (λ e. omega arith), ne_eqb c 62 (λ e. omega arith))

spelled_one : (n : ℕ) → n < 10 → Spelled n
spelled_one n h =
    record {
      first = zero_digit + n;
      more = [];
      is = digits_small n h;
      digit = is_digit_lem (zero_digit + n) (omega arith) (omega arith);
      positive = λ p. omega arith;
      alone = λ _. refl;
      no_sign = λ rest e. e;
      reads = λ rest. ap (λ (x : ℕ). digits_from x 0 rest) (let q : zero_digit + n - zero_digit ≡ n = omega arith in q);
    }

spelled_more : (n : ℕ) → 10 ≤ n → n ≤ index_max → Spelled (n / 10) → Spelled n
spelled_more n h s w =
    let c = zero_digit + n % 10 in
    let same_number : with (n / 10) c ≡ n = omega arith in
    record {
      first = w.first;
      more = w.more ++ c ∷ [];
      is = digits_more n h ∙ ap (λ (ds : List ℕ). ds ++ c ∷ []) w.is;
      digit = w.digit;
      positive = λ p. w.positive (omega arith);
      alone = λ l. absurd (omega arith);
      no_sign = λ rest e.
          ap (λ (l : List ℕ). is_sign (peeked l)) (append_assoc w.more (c ∷ []) rest) ∙ w.no_sign (c ∷ rest) (digit_next c rest (omega arith) (omega arith));
      reads = λ rest.
          ap (digits_from (w.first - zero_digit) 0) (append_assoc w.more (c ∷ []) rest)
          ∙ w.reads (c ∷ rest)
          ∙ step_more (n / 10) (length w.more) c rest (is_digit_lem c (omega arith) (omega arith)) (omega arith)
          ∙ ap (λ (x : ℕ). digits_from x (length w.more + 1) rest) same_number
          ∙ ap (λ (x : ℕ). digits_from n x rest) (sym (length-append w.more (c ∷ [])));
    }

pub spelled : (most n : ℕ) → n ≤ most → n ≤ index_max → Spelled n
spelled zero n h s = spelled_one n (omega arith)
spelled (suc most) n h s =
    split_lt n 10 (λ l. spelled_one n l) (λ l. spelled_more n l s (spelled most (n / 10) (omega arith) (omega arith)))

pub number_read : (n : ℕ) (rest : List ℕ) (w : Spelled n) → is_digit (peeked rest) ≡ false
    → consume_u32 w.first (w.more ++ rest) ≡ value n (length w.more)
unfolding consume_u32
number_read n rest w e = rw w.digit (w.reads rest ∙ step_stop n (length w.more) rest e)
