-- Numbers whose bytes are a name's, and what a name that is compared by its number is.
--     same_number     bytes of the same length and number are the same
--     number_low      the lowest n bytes of a number are the number of the first n
--     number_next                  the number of bytes at a place, by the first of them
--     by_slot         a name is the keyword at its place where number and length are its, and else none
--     by_none         no keyword has a place that the code's `match` leaves over
--     by_word         what the code asks of a name at a place of the bytes tells which keyword it is
--     no_number, no_length, found     the same by each answer, of a name of up to eight bytes
-- Assumes nothing.
use Rattle.std.specs.Prelude.{ℕ, zero, suc, ◌+◌, ◌*◌, ◌-◌, ◌/◌, ◌%◌, ◌^◌, ◌≤◌, ◌<◌, ◌≡◌, Bool, true, false, ◌&&◌, leb, length, get_or, take, drop}
use Rattle.std.proofs.Common.{mod-lt, mod-eq_of_lt, mul_assoc, add-zero, arith, add-one, ap, subst, ◌∙◌, length-take, length-drop, pow-add, pow_pos, drop-cons, take-take, get_or-take, get_or-drop, length-take-le, eqb-true, eq-eqb, ne_eqb, leb-true}
use Rattle.std.proofs.Math.Nat.{mod-one, div-add-mod, add-mul-mod_self_left}
use Rattle.std.proofs.Math.Path.{refl, sym}
use Rattle.std.proofs.lemmas.Bool.{false≢true}
use Rattle.std.proofs.Math.Bool.{and-eq-true_iff}
use mathlib.Core.List.{List, [], ◌∷◌}
use Rattle.std.proofs.Math.Dec.{eqb}
use Rattle.std.specs.Int.Bits.{bit_and}
use Rattle.std.proofs.lemmas.Nat.{and_mask}
use Rattle.base.specs.All.{all_good}
use Rattle.base.specs.AllLaws.{good_at}
use Rattle.base.specs.Pick.{pick}
use Rattle.base.specs.PickLaws.{by_test, split_lt}
use Rattle.token.specs.Kind.{id}
use Rattle.words.specs.Words.{is_word, Entry, first_in, only}
use Rattle.words.specs.WordsLaws.{word_same, word_itself, every, narrowed, ascii, ascii_at, Outside, among, outside_other}
use Rattle.keywords.specs.Keywords.{keywords, keyword_of}
use Rattle.fast_keywords.specs.Slots.{number, place_by, place_of, keywords_at, first_slot, slot_at}
use Rattle.fast_keywords.specs.declared.Slot.{Slot}

-- ---- numbers

-- all are bytes
abbrev pub Bytes : List ℕ → Type 0
Bytes l = (i : ℕ) → i < length l → get_or l i 0 < 256

pub same_number : (l m : List ℕ) → Bytes l → Bytes m → length l ≡ length m → number l ≡ number m → l ≡ m
unfolding number
same_number [] [] p q e f = refl
same_number [] (c ∷ m) p q e f = absurd (omega arith)
same_number (b ∷ l) [] p q e f = absurd (omega arith)
same_number (b ∷ l) (c ∷ m) p q e f =
    let x = p 0 (omega arith) in
    let y = q 0 (omega arith) in
    let head : b ≡ c = omega arith in
    let tail : number l ≡ number m = omega arith in
    rw (head, same_number l m (λ i h. p (suc i) (omega arith)) (λ i h. q (suc i) (omega arith)) (omega arith) tail)

-- a digit below a number of which the rest is taken
low_digit : (b x m : ℕ) → b < 256 → 0 < m → (b + 256 * x) % (256 * m) ≡ b + 256 * (x % m)
low_digit b x m h k =
    let r = x % m in
    let l : r < m = mod-lt x k in
    let split : m * (x / m) + r ≡ x = div-add-mod x m in
    let parts : b + 256 * x ≡ b + 256 * r + 256 * m * (x / m) = omega (arith, mul_assoc 256 m (x / m)) in
    rw parts (add-mul-mod_self_left (b + 256 * r) (256 * m) (x / m) ∙ mod-eq_of_lt (omega arith))

pub number_low : (n : ℕ) (l : List ℕ) → Bytes l → n ≤ length l → number l % 2 ^ (8 * n) ≡ number (take n l)
unfolding number
number_low zero l p h = mod-one (number l)
number_low (suc n) [] p h = absurd (omega arith)
number_low (suc n) (b ∷ l) p h =
    let e : 8 * suc n ≡ 8 + 8 * n = omega arith in
    rw (e, pow-add 2 8 (8 * n))
    (low_digit b (number l) (2 ^ (8 * n)) (p 0 (omega arith)) (pow_pos (8 * n))
    ∙ ap (λ (x : ℕ). b + 256 * x) (number_low n l (λ i k. p (suc i) (omega arith)) (omega arith)))

-- ---- the number of bytes at a place

pub number_next : (s : List ℕ) (n i j : ℕ) → i < length s → j ≡ i + 1
    → number (take (suc n) (drop i s)) ≡ get_or s i 0 + 256 * number (take n (drop j s))
unfolding number
number_next s n i j h e = rw (e, add-one i, drop-cons s i 0 h)

-- ---- the keyword at a place

same_when : (a b : Bool) → (a ≡ true → b ≡ true) → (b ≡ true → a ≡ true) → a ≡ b
same_when true b f g = sym (f refl)
same_when false true f g = g refl
same_when false false f g = refl

-- what is asked of a name, of the slot that stands at its place
abbrev pub fits : Slot → List ℕ → Bool
fits slot l = eqb (number l) slot.number && eqb (length l) slot.len

all_ascii : every (λ e. ascii e.text) keywords ≡ true
all_ascii = refl

all_one : (p : ℕ) → p < 64 → length (keywords_at p) ≤ 1
unfolding all_good place_by keywords_at
all_one p h = leb-true (length (keywords_at p)) 1 (good_at (λ p. leb (length (keywords_at p)) 1) 64 p h refl)

module _ (l : List ℕ) (bytes : Bytes l) where
  -- what the code asks of a keyword
  abbrev asked : Entry → Bool
  asked e = eqb (number l) (number e.text) && eqb (length l) (length e.text)

  agrees : (e : Entry) → ascii e.text ≡ true → eqb (place_of l) (place_of e.text) ≡ true → is_word e.text l ≡ asked e
  agrees e a k =
      let number-and-length = and-eq-true_iff (eqb (number l) (number e.text)) (eqb (length l) (length e.text)) in
      same_when (is_word e.text l) (asked e)
      (λ t. let same = word_same e.text l t in number-and-length.1 (eq-eqb _ _ (ap number same), eq-eqb _ _ (ap length same)))
      (λ t. let both = number-and-length.0 t in
      let same = same_number l e.text bytes (λ i h. let b = ascii_at e.text i a h in omega arith) (eqb-true _ _ both.1) (eqb-true _ _ both.0) in
      subst (λ (m : List ℕ). is_word e.text m ≡ true) (sym same) (word_itself e.text))

  fails : (e : Entry) → ascii e.text ≡ true → eqb (place_of l) (place_of e.text) ≡ false → is_word e.text l ≡ false
  fails e a k =
      same_when (is_word e.text l) false
      (λ t. sym k ∙ eq-eqb (place_of l) (place_of e.text) (ap place_of (word_same e.text l t)))
      (λ t. absurd (false≢true t))

  -- of at most one keyword, a search asks what the code asks
  of_one : (es : List Entry) → length es ≤ 1 → first_in asked (λ e. e.kind) id es ≡ pick (fits (first_slot es) l) (first_slot es).kind id
  unfolding first_in
  of_one [] h = by_test (λ (kind : ℕ). id ≡ kind) (fits (first_slot []) l) (λ _. refl) (λ _. refl)
  of_one (e ∷ []) h = refl
  of_one (e ∷ d ∷ es) h = absurd (omega arith)

  pub by_slot : pick (fits (slot_at (place_of l)) l) (slot_at (place_of l)).kind id ≡ keyword_of l
  unfolding keyword_of keywords_at slot_at place_by
  by_slot =
      sym (of_one (keywords_at (place_of l)) (all_one (place_of l) (mod-lt _ (omega arith))))
      ∙ narrowed (λ e. e.kind) id (λ e. ascii e.text) (λ e. eqb (place_of l) (place_of e.text)) (λ e. is_word e.text l) asked
      agrees
      fails
      keywords
      all_ascii

-- the places that keywords have, the greatest first, as the code's `match` leaves them behind
abbrev pub places : List ℕ
places = 61 ∷ 60 ∷ 59 ∷ 58 ∷ 57 ∷ 54 ∷ 52 ∷ 47 ∷ 46 ∷ 43 ∷ 41 ∷ 40 ∷ 39 ∷ 37 ∷ 34 ∷ 33 ∷ 31 ∷ 30 ∷ 29 ∷ 28 ∷ 26 ∷ 23 ∷ 20 ∷ 18 ∷ 17 ∷ 13 ∷ 10 ∷ 9 ∷ 8 ∷ 7 ∷ 5 ∷ 4 ∷ []

module _ (p : ℕ) (o : Outside p places) where
  none_there : (es : List Entry) → every (λ e. among (place_of e.text) places) es ≡ true → only (λ e. eqb p (place_of e.text)) es ≡ []
  none_there [] h = refl
  none_there (e ∷ es) h =
      let both = (and-eq-true_iff (among (place_of e.text) places) _).0 h in
      rw (outside_other p (place_of e.text) places o both.0) (none_there es both.1)

  pub by_none : keywords_at p ≡ []
  unfolding place_by keywords_at
  by_none = none_there keywords refl

-- ---- a name at a place of the bytes, behind which there are more than eight

both_no : (a : Bool) (kind : ℕ) → pick (a && false) kind id ≡ id
both_no true kind = refl
both_no false kind = refl

-- no keyword is longer
slot_short : (p : ℕ) → p < 64 → (slot_at p).len ≤ 8
unfolding all_good place_by keywords_at slot_at
slot_short p h = leb-true (slot_at p).len 8 (good_at (λ p. leb (slot_at p).len 8) 64 p h refl)

-- p is its place, what stands there is the slot, and the number of the eight bytes at its start is cut to its length, if it is no longer than they
module _ (s : List ℕ) (at len : ℕ) (bytes : (i : ℕ) → get_or s i 0 < 256) (room : at + 9 ≤ length s) (ends : at + len ≤ length s) (some : 1 ≤ len)
    {p word mask : ℕ} {slot : Slot} (there : p ≡ place_by len (get_or s at 0) (get_or s (at + (len - 1)) 0)) (is : slot ≡ slot_at p)
    (eight : word ≡ number (take 8 (drop at s))) (cut : len ≤ 8 → mask ≡ 2 ^ (8 * len) - 1) where
  abbrev name : List ℕ
  name = take len (drop at s)

  long : length name ≡ len
  long = length-take-le len (drop at s) (omega (arith, length-drop at s))

  byte : (n i : ℕ) → i < n → get_or (take n (drop at s)) i 0 ≡ get_or s (at + i) 0
  byte n i h = get_or-take n (drop at s) i 0 h ∙ get_or-drop at s i 0

  all_bytes : (n : ℕ) → Bytes (take n (drop at s))
  all_bytes n i h = rw (byte n i (omega (arith, length-take n (drop at s)))) (bytes (at + i))

  its_place : p ≡ place_of name
  its_place = rw (long, byte len 0 (omega arith), byte len (len - 1) (omega arith), add-zero at) there

  its_number : len ≤ 8 → bit_and word mask ≡ number name
  its_number few =
      rw (cut few, and_mask word (8 * len), eight)
      (number_low len (take 8 (drop at s)) (all_bytes 8) (omega (arith, length-take-le 8 (drop at s) (omega (arith, length-drop at s))))
      ∙ ap number (take-take len 8 (drop at s) few))

  -- what the code answers
  abbrev answer : ℕ
  answer = pick (eqb (bit_and word mask) slot.number && eqb len slot.len) slot.kind id

  compared : len ≤ 8 → answer ≡ keyword_of name
  compared few =
      ap (λ (n : ℕ). pick (eqb (bit_and word mask) slot.number && eqb n slot.len) slot.kind id) (sym long)
      ∙ ap (λ (x : ℕ). pick (eqb x slot.number && eqb (length name) slot.len) slot.kind id) (its_number few)
      ∙ ap (λ (t : Slot). pick (fits t name) t.kind id) (is ∙ ap slot_at its_place)
      ∙ by_slot name (all_bytes len)

  too_long_lem : 8 < len → answer ≡ id
  unfolding place_by
  too_long_lem h =
      let short : slot.len ≤ 8 = rw is (slot_short p (rw there (mod-lt _ (omega arith)))) in
      rw (ne_eqb len slot.len (λ e. omega arith)) (both_no (eqb (bit_and word mask) slot.number) slot.kind)

  pub by_word : (8 < len → id ≡ keyword_of name) → answer ≡ keyword_of name
  by_word none = split_lt 8 len (λ h. too_long_lem h ∙ none h) (λ h. compared h)

-- the same of a name that is no longer than they, by what is asked of it: another number, another length, or the keyword
module _ (s : List ℕ) (at len : ℕ) (bytes : (i : ℕ) → get_or s i 0 < 256) (room : at + 9 ≤ length s) (some : 2 ≤ len) (few : len ≤ 8) {p word mask : ℕ}
    {slot : Slot} (there : p ≡ place_by len (get_or s at 0) (get_or s (at + (len - 1)) 0)) (is : slot ≡ slot_at p) (eight : word ≡ number (take 8 (drop at s)))
    (cut : mask ≡ 2 ^ (8 * len) - 1) where
  told_here : pick (eqb (bit_and word mask) slot.number && eqb len slot.len) slot.kind id ≡ keyword_of (take len (drop at s))
  told_here = compared s at len bytes room (omega arith) (omega arith) there is eight (λ _. cut) few

  pub no_number : (bit_and word mask ≡ slot.number → ⊥) → id ≡ keyword_of (take len (drop at s))
  no_number n = rw (ne_eqb (bit_and word mask) slot.number n) at told_here

  pub no_length : bit_and word mask ≡ slot.number → (len ≡ slot.len → ⊥) → id ≡ keyword_of (take len (drop at s))
  no_length e n = rw (eq-eqb (bit_and word mask) slot.number e, ne_eqb len slot.len n) at told_here

  pub found : bit_and word mask ≡ slot.number → len ≡ slot.len → slot.kind ≡ keyword_of (take len (drop at s))
  found e f = rw (eq-eqb (bit_and word mask) slot.number e, eq-eqb len slot.len f) at told_here
