-- A search in the table needs to look only at the keyword that has the name's place.
--     compared, eight    a name is compared with the first bytes of the eight that stand at its place
--     differs            a name that has another first or second byte than those is no keyword
--     by_length          a name that is too short or too long is no keyword: too_short, too_long
--     by_none            no keyword has a place that the code's `match` leaves over
-- Assumes nothing.
use mathlib.Core.Path.{◌≡◌, refl, sym, ap, ◌∙◌}
use mathlib.Core.Bool.{Bool, true, false, not, ◌&&◌, ◌||◌, false≢true, and-eq-true_iff}
use mathlib.Core.List.{List, [], ◌∷◌}
use Prim.Native.Nat.{ℕ, ◌+◌, ◌≤◌, ◌<◌}
use native.Mathlib.Nat.{add-zero, mod-lt}
use native.Mathlib.Omega.{arith}
use lib.Dec.{eqb, ltb, leb}
use borrow.Author.Tests.{eqb-true, eq-eqb, le-ltb, leb-true}
use lib.ListN.{length, get_or, take, drop, length-take}
use lib.Seq.{take-append_seam, get_or-take, get_or-drop, length-take-le}
use Rattle.base.specs.Pick.{pick}
use Rattle.base.specs.PickLaws.{by_test}
use Rattle.base.specs.All.{all_good}
use Rattle.base.specs.AllLaws.{good_at}
use Rattle.token.specs.Kind.{id}
use Rattle.words.specs.Words.{is_word, starts_with, Entry, first_in, only}
use Rattle.words.specs.WordsLaws.{word_same, word_itself, starts_at, every, by_first, narrowed, Outside, among, outside_other}
use Rattle.words.proofs.Compare.{by_start}
use Rattle.keywords.specs.Keywords.{keywords, keyword_of}
use Rattle.keywords.specs.Places.{place_by, place_of, keywords_at, filled, first_text, first_kind, text_at, kind_at}

same_when : (a b : Bool) → (a ≡ true → b ≡ true) → (b ≡ true → a ≡ true) → a ≡ b
same_when true b f g = sym (f refl)
same_when false true f g = g refl
same_when false false f g = refl

-- the first n of the bytes that a keyword is filled up to have its place only where they are the keyword
abbrev alone : List ℕ → ℕ → Bool
alone text n = ltb n 2 || (not (eqb (place_of (take n (filled text))) (place_of text)) || is_word text (take n (filled text)))

-- what holds of each keyword
abbrev fair : Entry → Bool
fair e = all_good (alone e.text) 9

all_fair : every fair keywords ≡ true
unfolding all_good is_word place_by
all_fair = refl

-- at most one keyword has the place p, and what stands there is eight bytes long
abbrev fit : ℕ → Bool
fit p = leb (length (keywords_at p)) 1 && eqb (length (text_at p)) 8

all_fit : (p : ℕ) → p < 64 → (length (keywords_at p) ≤ 1) × (length (text_at p) ≡ 8)
unfolding all_good place_by keywords_at text_at
all_fit p h =
    let both = (and-eq-true_iff (leb (length (keywords_at p)) 1) (eqb (length (text_at p)) 8)).0 (good_at fit 64 p h refl) in
    (leb-true (length (keywords_at p)) 1 both.0, eqb-true (length (text_at p)) 8 both.1)

module _ (l : List ℕ) (some : 2 ≤ length l) (few : length l ≤ 8) where
  -- what the code compares a name with, where a keyword has its place
  abbrev begun : Entry → List ℕ
  begun e = take (length l) (filled e.text)

  itself : (e : Entry) → is_word e.text l ≡ true → is_word (begun e) l ≡ true
  itself e t = rw (word_same e.text l t, take-append_seam e.text) (word_itself e.text)

  no_other : (e : Entry) → fair e ≡ true → place_of l ≡ place_of e.text → is_word (begun e) l ≡ true → is_word e.text l ≡ true
  no_other e f p t =
      let same = word_same (begun e) l t in
      let there = eq-eqb (place_of (begun e)) (place_of e.text) (sym (ap place_of same) ∙ p) in
      rw same (simp (le-ltb (length l) 2 some, there) at (good_at (alone e.text) 9 (length l) (omega arith) f))

  agrees : (e : Entry) → fair e ≡ true → eqb (place_of l) (place_of e.text) ≡ true → is_word e.text l ≡ is_word (begun e) l
  agrees e f k = same_when (is_word e.text l) (is_word (begun e) l) (itself e) (no_other e f (eqb-true (place_of l) (place_of e.text) k))

  fails : (e : Entry) → fair e ≡ true → eqb (place_of l) (place_of e.text) ≡ false → is_word e.text l ≡ false
  fails e f k =
      same_when (is_word e.text l) false
      (λ t. sym k ∙ eq-eqb (place_of l) (place_of e.text) (ap place_of (word_same e.text l t)))
      (λ t. absurd (false≢true t))

  -- of at most one keyword, a search asks what the code asks
  of_one : (es : List Entry) → length es ≤ 1
      → first_in (λ e. is_word (begun e) l) (λ e. e.kind) id es ≡ pick (is_word (take (length l) (first_text es)) l) (first_kind es) id
  unfolding first_in
  of_one [] h = by_test (λ (kind : ℕ). id ≡ kind) (is_word (take (length l) (filled [])) l) (λ _. refl) (λ _. refl)
  of_one (e ∷ []) h = refl
  of_one (e ∷ d ∷ es) h = absurd (omega arith)

  by_place : pick (is_word (take (length l) (text_at (place_of l))) l) (kind_at (place_of l)) id ≡ keyword_of l
  unfolding keyword_of keywords_at text_at kind_at place_by
  by_place =
      sym (of_one (keywords_at (place_of l)) (all_fit (place_of l) (mod-lt _ (omega arith))).0)
      ∙ narrowed (λ e. e.kind) id fair (λ e. eqb (place_of l) (place_of e.text)) (λ e. is_word e.text l) (λ e. is_word (begun e) l)
      agrees
      fails
      keywords
      all_fair

-- n is how many bytes the name has, p its place and t the bytes that stand there
module _ (s : List ℕ) (at len : ℕ) {n p : ℕ} {t : List ℕ} (long : n ≡ length (take len (drop at s))) (some : 2 ≤ n) (few : n ≤ 8)
    (there : p ≡ place_by n (get_or s at 0) (get_or s (at + 1) 0)) (is : t ≡ text_at p) where
  byte : (i : ℕ) → i < 2 → get_or (take len (drop at s)) i 0 ≡ get_or s (at + i) 0
  byte i h = get_or-take len (drop at s) i 0 (omega (arith, length-take len (drop at s))) ∙ get_or-drop at s i 0

  its_place : p ≡ place_of (take len (drop at s))
  its_place = rw (byte 0 (omega arith), byte 1 (omega arith), add-zero at, ← long) there

  pub eight : length t ≡ 8
  unfolding place_by
  eight = rw (is, its_place) (all_fit _ (mod-lt _ (omega arith))).1

  pub compared : {r : Bool} → r ≡ starts_with (take n t) (drop at s) → pick r (kind_at p) id ≡ keyword_of (take len (drop at s))
  compared e =
      let said = e ∙ by_start (take n t) (drop at s) len (sym long ∙ sym (length-take-le n t (omega (arith, eight)))) in
      rw (said, is, its_place, long) (by_place (take len (drop at s)) (omega arith) (omega arith))

  -- a name that differs from what stands at its place in one of its first two bytes is no keyword
  pub differs : (i : ℕ) → i < 2 → (get_or s (at + i) 0 ≡ get_or t i 0 → ⊥) → id ≡ keyword_of (take len (drop at s))
  differs i h other =
      compared
      (sym
      (same_when (starts_with (take n t) (drop at s)) false
      (λ e.
      absurd
      (other
      (sym (get_or-drop at s i 0)
      ∙ starts_at (take n t) (drop at s) i e (omega (arith, length-take-le n t (omega (arith, eight))))
      ∙ get_or-take n t i 0 (omega arith))))
      (λ e. absurd (false≢true e))))

-- a keyword has two to eight bytes
abbrev sized : Entry → Bool
sized e = leb 2 (length e.text) && leb (length e.text) 8

pub by_length : (l : List ℕ) → ((2 ≤ length l) × (length l ≤ 8) → ⊥) → id ≡ keyword_of l
unfolding keyword_of
by_length l out =
    by_first (λ (kind : ℕ). id ≡ kind) sized (λ e. is_word e.text l) (λ e. e.kind) id
    (λ e s t.
    let both = (and-eq-true_iff (leb 2 (length e.text)) (leb (length e.text) 8)).0 s in
    let long = ap length (word_same e.text l t) in
    absurd (out (rw long (leb-true 2 (length e.text) both.0), rw long (leb-true (length e.text) 8 both.1))))
    refl
    keywords
    refl

-- the same by each bound, as `keyword` asks for it
pub too_short : (l : List ℕ) → length l < 2 → keyword_of l ≡ id
too_short l h = sym (by_length l (λ b. omega (arith, b.0)))

pub too_long : (l : List ℕ) → 8 < length l → keyword_of l ≡ id
too_long l h = sym (by_length l (λ b. omega (arith, b.1)))

-- the places that keywords have, the greatest first, as the code's `match` leaves them behind
abbrev pub places : List ℕ
places = 63 ∷ 61 ∷ 60 ∷ 59 ∷ 58 ∷ 57 ∷ 55 ∷ 53 ∷ 52 ∷ 49 ∷ 48 ∷ 47 ∷ 45 ∷ 39 ∷ 37 ∷ 36 ∷ 35 ∷ 34 ∷ 33 ∷ 32 ∷ 31 ∷ 30 ∷ 29 ∷ 25 ∷ 23 ∷ 22 ∷ 20 ∷ 14 ∷ 10 ∷ 6 ∷ 3 ∷ 0 ∷ []

module _ (p : ℕ) (o : Outside p places) where
  none_there : (es : List Entry) → every (λ e. among (place_of e.text) places) es ≡ true → only (λ e. eqb p (place_of e.text)) es ≡ []
  none_there [] h = refl
  none_there (e ∷ es) h =
      let both = (and-eq-true_iff (among (place_of e.text) places) _).0 h in
      rw (outside_other p (place_of e.text) places o both.0) (none_there es both.1)

  pub by_none : keywords_at p ≡ []
  unfolding place_by keywords_at
  by_none = none_there keywords refl
