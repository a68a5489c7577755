-- The search for the brace goes over the bytes, and the definition over the characters: no byte of a longer character is a brace.
-- What the loop of `find_brace` keeps: what is found from here is what was to be found from the start.
--     Searching, searching     the invariant, and where it begins
--     searches_on              a byte that is no brace
--     found, nowhere           the ways out
-- Assumes nothing.
use Prim.Native.Nat.{ℕ, suc, ◌+◌, ◌≤◌, ◌<◌}
use native.Mathlib.Omega.{arith}
use native.Mathlib.Numerals.{add-one}
use mathlib.Core.Path.{◌≡◌, refl, sym, ap, ◌∙◌}
use mathlib.Core.List.{List, [], ◌∷◌, ◌++◌}
use lib.Dec.{eqb}
use lib.ListN.{length, get_or, drop, drop_of_length-le}
use lib.Seq.{drop-cons}
use borrow.Author.Tests.{eq-eqb, ne_eqb}
use Rattle.std.specs.Prelude.{Option, Some, None}
use Rattle.base.specs.Pick.{pick}
use Rattle.base.specs.PickLaws.{split_lt}
use Rattle.utf8.specs.Encode.{encode, encode_all, WellFormed}
use Rattle.utf8.specs.EncodeLaws.{encode1, encode2, encode3, encode4}
use Rattle.utf8.specs.Chars.{chars}
use Rattle.utf8.specs.CharsLaws.{chars_well}
use Rattle.text.specs.Tests.{curly_close}
use Rattle.text.specs.Count.{len_utf8}
use Rattle.options.specs.ConsumeFormatOptions.{find_brace}

-- the first brace among bytes, which begin at the byte i
find_byte : ℕ → List ℕ → Option ℕ
find_byte i [] = None
find_byte i (b ∷ bs) = pick (eqb b curly_close) (Some i) (find_byte (suc i) bs)

-- ---- over a character

-- bytes of which none is ASCII
abbrev High : List ℕ → Type 0
High [] = Unit {0}
High (b ∷ bs) = (0x80 ≤ b) × High bs

past_high : (i : ℕ) (a t : List ℕ) → High a → find_byte i (a ++ t) ≡ find_byte (i + length a) t
unfolding find_byte
past_high i [] t h = ap (λ (j : ℕ). find_byte j t) (omega arith)
past_high i (b ∷ a) t h =
    rw (ne_eqb b curly_close (λ x. omega (arith, h.0))) (past_high (suc i) a t h.1 ∙ ap (λ (j : ℕ). find_byte j t) (omega arith))

encode_high : (c : ℕ) → 0x80 ≤ c → High (encode c)
encode_high c h =
    split_lt c 0x800 (λ k. rw (encode2 c h k) (omega arith, (omega arith, tt)))
    (λ k. split_lt c 0x10000 (λ m. rw (encode3 c k m) (omega arith, (omega arith, (omega arith, tt))))
    (λ m. rw (encode4 c m) (omega arith, (omega arith, (omega arith, (omega arith, tt))))))

past_char : (i c : ℕ) (t : List ℕ) → find_byte i (encode c ++ t) ≡ pick (eqb c curly_close) (Some i) (find_byte (i + len_utf8 c) t)
unfolding find_byte
past_char i c t =
    split_lt c 0x80 (λ h. rw (encode1 c h, add-one i))
    (λ h. past_high i (encode c) t (encode_high c h) ∙ sym (rw (ne_eqb c curly_close (λ x. omega arith))))

past_chars : (i : ℕ) (cs : List ℕ) → find_byte i (encode_all cs) ≡ find_brace i cs
unfolding encode_all find_byte find_brace
past_chars i [] = refl
past_chars i (c ∷ cs) = past_char i c (encode_all cs) ∙ ap (pick (eqb c curly_close) (Some i)) (past_chars (i + len_utf8 c) cs)

-- ---- along a source

module _ (s : List ℕ) (at : ℕ) where
  -- the definition's answer
  abbrev answer : Option ℕ
  answer = find_brace at (chars (drop at s))

  pub record Searching (i : ℕ) : Type 0 where
    same : find_byte i (drop i s) ≡ answer

  pub searching : WellFormed (drop at s) → Searching at
  searching w = record { same = ap (find_byte at) (chars_well (drop at s) w).0 ∙ past_chars at (chars (drop at s)) }

  module _ (i : ℕ) (g : Searching i) where
    pub nowhere : length s ≤ i → None ≡ answer
    unfolding find_byte
    nowhere h = rw (drop_of_length-le s h) at g.same

    module _ (h : i < length s) where
      here : pick (eqb (get_or s i 0) curly_close) (Some i) (find_byte (suc i) (drop (suc i) s)) ≡ answer
      unfolding find_byte
      here = rw (drop-cons s i 0 h) at g.same

      pub found : get_or s i 0 ≡ curly_close → Some i ≡ answer
      found e = rw (eq-eqb (get_or s i 0) curly_close e) at here

      pub searches_on : (get_or s i 0 ≡ curly_close → ⊥) → Searching (i + 1)
      searches_on e = rw (add-one i) (record { same = rw (ne_eqb (get_or s i 0) curly_close e) at here })
