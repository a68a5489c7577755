-- The comparison of a source with a word, byte by byte, on plain lists.
--     starts_is                   std's test of a slice that begins with a word is the one of `Words`
--     other_length, by_start                      a name is the word where it is as long and begins with it
-- Assumes nothing.
use mathlib.Core.Path.{◌≡◌, refl, sym, ap, ◌∙◌}
use mathlib.Core.Bool.{true, false, ◌&&◌, and-false}
use mathlib.Core.List.{List, [], ◌∷◌}
use Prim.Native.Nat.{ℕ, zero, suc, ◌≤◌}
use native.Mathlib.Omega.{arith}
use lib.Dec.{eqb}
use borrow.Author.Tests.{eq-eqb, ne_eqb}
use lib.ListN.{length, take, length-take}
use lib.Pointwise.{pointwise}
use Rattle.base.specs.PickLaws.{split_eq}
use Rattle.words.specs.Words.{is_word, starts_with}

eqb_flip : (a b : ℕ) → eqb a b ≡ eqb b a
eqb_flip a b = split_eq a b (λ e. eq-eqb a b e ∙ sym (eq-eqb b a (sym e))) (λ n. ne_eqb a b n ∙ sym (ne_eqb b a (λ e. n (sym e))))

-- std's test of a slice that begins with the word, which asks for the word's byte first
pub starts_is : (w l : List ℕ) → pointwise eqb w (take (length w) l) ≡ starts_with w l
unfolding starts_with
starts_is [] l = refl
starts_is (c ∷ w) [] = refl
starts_is (c ∷ w) (b ∷ l) = rw (eqb_flip c b, starts_is w l)

by_length : (w l : List ℕ) → length l ≡ length w → starts_with w l ≡ is_word w l
unfolding starts_with is_word
by_length [] [] e = refl
by_length [] (b ∷ l) e = absurd (omega arith)
by_length (c ∷ w) [] e = refl
by_length (c ∷ w) (b ∷ l) e = ap (λ t. eqb b c && t) (by_length w l (omega arith))

pub other_length : (w l : List ℕ) → (length l ≡ length w → ⊥) → is_word w l ≡ false
unfolding is_word
other_length [] [] ne = absurd (ne refl)
other_length [] (b ∷ l) ne = refl
other_length (c ∷ w) [] ne = refl
other_length (c ∷ w) (b ∷ l) ne = ap (λ t. eqb b c && t) (other_length w l (λ e. ne (omega arith))) ∙ and-false (eqb b c)

-- bytes past the word's length do not matter
starts_take : (w l : List ℕ) (n : ℕ) → length w ≤ n → starts_with w (take n l) ≡ starts_with w l
unfolding starts_with
starts_take [] l n h = refl
starts_take (c ∷ w) l zero h = absurd (omega arith)
starts_take (c ∷ w) [] (suc n) h = refl
starts_take (c ∷ w) (b ∷ l) (suc n) h = ap (λ t. eqb b c && t) (starts_take w l n (omega arith))

-- a name of n bytes of l, as many as the word has
pub by_start : (w l : List ℕ) (n : ℕ) → length (take n l) ≡ length w → starts_with w l ≡ is_word w (take n l)
by_start w l n e = sym (starts_take w l n (omega (arith, length-take n l))) ∙ by_length w (take n l) e
