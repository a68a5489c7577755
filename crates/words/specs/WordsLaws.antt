-- What callers may use of words and of tables of them.
--     word_same, word_itself                           a name is a word exactly where its bytes are
--     starts_same, starts_within, starts_at            the bytes that begin with a word
--     every, by_first                                  what holds of each entry that can be found holds of what is found
--     narrowed                                         a search needs to look only at the entries that can pass
--     ascii, ascii_at, other_kind                       what a table may say of its entries
--     Outside, among, outside_other                    a number that a `match` left over is none of its numbers
-- Assumes nothing.
use Rattle.std.specs.Prelude.{◌≡◌, Bool, true, false, not, ◌&&◌, ℕ, zero, suc, ◌≤◌, ◌<◌, eqb, ltb, length, get_or, take}
use Rattle.std.proofs.Math.Path.{refl}
use Rattle.std.proofs.Common.{◌∙◌, arith, eqb-true, eq-eqb, ne_eqb, ltb-true}
use Rattle.std.proofs.lemmas.Bool.{false≢true}
use Rattle.std.proofs.Math.Bool.{and-eq-true_iff}
use mathlib.Core.List.{List, [], ◌∷◌}
use Rattle.base.specs.Pick.{pick}
use Rattle.base.specs.PickLaws.{by_test, by_eq}
use Rattle.words.specs.Words.{is_word, starts_with, Entry, first_in, only}

-- ---- words

pub word_same : (w l : List ℕ) → is_word w l ≡ true → l ≡ w
unfolding is_word
word_same [] [] e = refl
word_same [] (b ∷ l) e = absurd (false≢true e)
word_same (c ∷ w) [] e = absurd (false≢true e)
word_same (c ∷ w) (b ∷ l) e =
    let both = (and-eq-true_iff (eqb b c) (is_word w l)).0 e in
    rw (eqb-true b c both.0, word_same w l both.1)

pub word_itself : (w : List ℕ) → is_word w w ≡ true
unfolding is_word
word_itself [] = refl
word_itself (c ∷ w) = (and-eq-true_iff (eqb c c) (is_word w w)).1 (eq-eqb c c refl, word_itself w)

pub starts_same : (w l : List ℕ) → starts_with w l ≡ true → take (length w) l ≡ w
unfolding starts_with
starts_same [] l e = refl
starts_same (c ∷ w) [] e = absurd (false≢true e)
starts_same (c ∷ w) (b ∷ l) e =
    let both = (and-eq-true_iff (eqb b c) (starts_with w l)).0 e in
    rw (eqb-true b c both.0, starts_same w l both.1)

pub starts_within : (w l : List ℕ) → starts_with w l ≡ true → length w ≤ length l
unfolding starts_with
starts_within [] l e = omega arith
starts_within (c ∷ w) [] e = absurd (false≢true e)
starts_within (c ∷ w) (b ∷ l) e = omega (arith, starts_within w l ((and-eq-true_iff (eqb b c) (starts_with w l)).0 e).1)

pub starts_at : (w l : List ℕ) (i : ℕ) → starts_with w l ≡ true → i < length w → get_or l i 0 ≡ get_or w i 0
unfolding starts_with
starts_at [] l i e h = absurd (omega arith)
starts_at (c ∷ w) [] i e h = absurd (false≢true e)
starts_at (c ∷ w) (b ∷ l) zero e h = eqb-true b c ((and-eq-true_iff (eqb b c) (starts_with w l)).0 e).0
starts_at (c ∷ w) (b ∷ l) (suc i) e h = starts_at w l i ((and-eq-true_iff (eqb b c) (starts_with w l)).0 e).1 (omega arith)

-- ---- tables

-- a test that holds of all entries of a table
abbrev pub every : (Entry → Bool) → List Entry → Bool
every test [] = true
every test (e ∷ es) = test e && every test es

-- Q holds of what is found, where it holds of each entry that passes, and where none does. P is what is known of all entries
module _ {A : Type 0} (Q : A → Type 0) (P test : Entry → Bool) (answer : Entry → A) (none : A)
    (each : (e : Entry) → P e ≡ true → test e ≡ true → Q (answer e)) (else-none : Q none) where
  pub by_first : (es : List Entry) → every P es ≡ true → Q (first_in test answer none es)
  unfolding first_in
  by_first [] h = else-none
  by_first (e ∷ es) h =
      let both = (and-eq-true_iff (P e) (every P es)).0 h in
      by_test Q (test e) (λ t. each e both.0 t) (λ _. by_first es both.1)

-- an entry that is not kept fails its test, and one that is kept is as good as told by test'. P is what is known of all entries
module _ {A : Type 0} (answer : Entry → A) (none : A) (P keep test test' : Entry → Bool)
    (agrees : (e : Entry) → P e ≡ true → keep e ≡ true → test e ≡ test' e) (fails : (e : Entry) → P e ≡ true → keep e ≡ false → test e ≡ false) where
  pub narrowed : (es : List Entry) → every P es ≡ true → first_in test' answer none (only keep es) ≡ first_in test answer none es
  unfolding first_in
  narrowed [] h = refl
  narrowed (e ∷ es) h =
      let both = (and-eq-true_iff (P e) (every P es)).0 h in
      let rest = narrowed es both.1 in
      by_test (λ (kept : List Entry). first_in test' answer none kept ≡ first_in test answer none (e ∷ es)) (keep e)
      (λ k. rw (agrees e both.0 k, rest))
      (λ k. rw (fails e both.0 k) rest)

-- ---- what a table may say of its entries

-- all bytes are ASCII
abbrev pub ascii : List ℕ → Bool
ascii [] = true
ascii (b ∷ l) = ltb b 128 && ascii l

pub ascii_at : (l : List ℕ) (i : ℕ) → ascii l ≡ true → i < length l → get_or l i 0 < 128
ascii_at [] i e h = absurd (omega arith)
ascii_at (b ∷ l) zero e h = ltb-true b 128 ((and-eq-true_iff (ltb b 128) (ascii l)).0 e).0
ascii_at (b ∷ l) (suc i) e h = ascii_at l i ((and-eq-true_iff (ltb b 128) (ascii l)).0 e).1 (omega arith)

-- an entry's kind is another
abbrev pub other_kind : ℕ → Entry → Bool
other_kind kind e = not (eqb e.kind kind)

-- ---- what a `match` leaves over

-- what a `match` on some numbers, the greatest first, knows of a number that it left over
abbrev pub Outside : ℕ → List ℕ → Type 0
Outside b [] = Unit
Outside b (c ∷ cs) = Outside b cs × (b ≡ c → ⊥)

abbrev pub among : ℕ → List ℕ → Bool
among c [] = false
among c (d ∷ cs) = pick (eqb c d) true (among c cs)

pub outside_other : (b c : ℕ) (cs : List ℕ) → Outside b cs → among c cs ≡ true → eqb b c ≡ false
outside_other b c [] o m = absurd (false≢true m)
outside_other b c (d ∷ cs) o m =
    by_eq (λ (t : Bool). t ≡ true → eqb b c ≡ false) c d (λ e _. ne_eqb b c (λ h. o.1 (h ∙ e))) (λ _ m. outside_other b c cs o.0 m) m
