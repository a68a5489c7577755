-- C-14, of whole sources: look-ups that agree on the code points of a source give the same reading.
--     inside_tail, own_chars    the bytes of a character behind its first; the characters of what was encoded
--     left_agrees, remaining_agrees    what is left at any place has no other code points
--     read_agrees               reading on from a state
--     reading_agrees            the reading
-- Assumes nothing.
use Prim.Native.Nat.{ℕ, zero, suc, ◌+◌, ◌-◌, ◌/◌, ◌%◌, ◌<◌}
use native.Mathlib.Omega.{arith}
use Rattle.std.specs.Prelude.{◌≡◌, true, get_or}
use Rattle.std.proofs.Math.Path.{refl, subst}
use Rattle.std.proofs.Common.{sym, ap, ◌∙◌, get_or-append-add}
use mathlib.Core.List.{List, [], ◌∷◌, ◌++◌, append-nil}
use Rattle.std.proofs.Math.ListN.{length, get_or-append}
use Rattle.std.proofs.Math.Seq.{drop-append-add}
use Rattle.base.specs.PickLaws.{by_test, by_lt, split_lt, split_eq}
use Rattle.base.specs.RangeLaws.{is_inside}
use Rattle.utf8.specs.Encode.{encode, encode_all, Scalars, WellFormed}
use Rattle.utf8.specs.Read.{is_tail}
use Rattle.utf8.specs.Chars.{chars_in, chars}
use Rattle.utf8.specs.CharsLaws.{chars_past, chars_well}
use Rattle.cluster.specs.FirstLaws.{Agree}
use Rattle.state.specs.State.{start_state}
use Rattle.state.specs.declared.State.{State}
use Rattle.lexer.specs.GetNextToken.{remaining_at}
use Rattle.lexer.specs.ArmLaws.{remaining_end, remaining_inside}
use Rattle.stepping.specs.Invariant.{measure}
use Rattle.reading.specs.Reading.{after_step, read_in, read_from, reading}
use Rattle.agree.specs.StepLaws.{step_agrees}

-- ---- what is left

-- bytes that begin no character
abbrev AllTails : List ℕ → Type 0
AllTails [] = Unit {0}
AllTails (b ∷ l) = (is_tail b ≡ true) × AllTails l

tail_at : (a : ℕ) (l : List ℕ) → AllTails l → (i : ℕ) → 0 < i → i < length (a ∷ l) → is_tail (get_or (a ∷ l) i 0) ≡ true
tail_at a l t zero h k = absurd (omega arith)
tail_at a [] t (suc i) h k = absurd (omega arith)
tail_at a (b ∷ l) t (suc zero) h k = t.0
tail_at a (b ∷ l) t (suc (suc i)) h k = tail_at b l t.1 (suc i) (omega arith) (omega arith)

low_bits : (x : ℕ) → is_tail (0x80 + x % 64) ≡ true
low_bits x = is_inside (0x80 + x % 64) 0x80 0xbf (omega arith) (omega arith)

-- the bytes of a character after its first
pub inside_tail : (c i : ℕ) → 0 < i → i < length (encode c) → is_tail (get_or (encode c) i 0) ≡ true
unfolding encode
inside_tail c i h =
    by_lt P c 0x80 (λ _. tail_at c [] tt i h)
    (λ _. by_lt P c 0x800 (λ _. tail_at (0xc0 + c / 64) ((0x80 + c % 64) ∷ []) (low_bits c, tt) i h)
    (λ _. by_lt P c 0x10000
    (λ _. tail_at (0xe0 + c / 4096) ((0x80 + c / 64 % 64) ∷ (0x80 + c % 64) ∷ []) (low_bits (c / 64), (low_bits c, tt)) i h)
    (λ _. tail_at (0xf0 + c / 262144) ((0x80 + c / 4096 % 64) ∷ (0x80 + c / 64 % 64) ∷ (0x80 + c % 64) ∷ [])
    (low_bits (c / 4096), (low_bits (c / 64), (low_bits c, tt))) i h)))
  where
    P : List ℕ → Type 0
    P l = i < length l → is_tail (get_or l i 0) ≡ true

remaining_past : (a t : List ℕ) (j : ℕ) → remaining_at (a ++ t) (length a + j) ≡ remaining_at t j
unfolding remaining_at
remaining_past a t j = rw (get_or-append-add, drop-append-add)

pub own_chars : (cs : List ℕ) → Scalars cs → chars (encode_all cs) ≡ cs
unfolding chars_in
own_chars cs v = ap chars (sym (append-nil (encode_all cs))) ∙ chars_past cs [] v ∙ append-nil cs

module _ (f g : ℕ → ℕ) where
  first_agrees : (s cs : List ℕ) → chars s ≡ cs → Agree f g cs → Agree f g (remaining_at s 0)
  unfolding remaining_at
  first_agrees s cs e a = by_test (Agree f g) (is_tail (get_or s 0 0)) (λ _. tt) (λ _. subst (Agree f g) (sym e) a)

  points_agree : (cs : List ℕ) → Scalars cs → Agree f g cs → (i : ℕ) → Agree f g (remaining_at (encode_all cs) i)
  unfolding encode_all
  points_agree [] v a i = subst (Agree f g) (sym (remaining_end [] i (omega arith))) tt
  points_agree (c ∷ cs) v a i =
      let n = length (encode c) in
      let left : ℕ → List ℕ = λ j. remaining_at (encode c ++ encode_all cs) j in
      split_lt i n
      (λ k. split_eq i 0
      (λ e. subst (λ (j : ℕ). Agree f g (left j)) (sym e) (first_agrees (encode c ++ encode_all cs) (c ∷ cs) (own_chars (c ∷ cs) v) a))
      (λ e. subst (Agree f g)
      (sym (remaining_inside (encode c ++ encode_all cs) i (ap is_tail (get_or-append (encode c) (encode_all cs) 0 i k) ∙ inside_tail c i (omega arith) k)))
      tt))
      (λ k. let e : n + (i - n) ≡ i = omega arith in
      subst (λ (j : ℕ). Agree f g (left j)) e
      (subst (Agree f g) (sym (remaining_past (encode c) (encode_all cs) (i - n))) (points_agree cs v.1 a.1 (i - n))))

  -- what is left, where the characters are these
  pub left_agrees : (s cs : List ℕ) → chars s ≡ cs → WellFormed s → Agree f g cs → (i : ℕ) → Agree f g (remaining_at s i)
  left_agrees s cs e w a i =
      let v = chars_well s w in
      subst (λ (t : List ℕ). Agree f g (remaining_at t i)) (sym v.0) (points_agree (chars s) v.1 (subst (Agree f g) (sym e) a) i)

  pub remaining_agrees : (s : List ℕ) → WellFormed s → Agree f g (chars s) → (i : ℕ) → Agree f g (remaining_at s i)
  remaining_agrees s w a = left_agrees s (chars s) refl w (search a)

  -- ---- the reading

  module _ (edition : ℕ) (s : List ℕ) (left : (i : ℕ) → Agree f g (remaining_at s i)) where
    in_agrees : (n : ℕ) (st : State) → read_in n f edition s st ≡ read_in n g edition s st
    unfolding read_in
    in_agrees zero st = refl
    in_agrees (suc n) st =
        let p = step_agrees f g edition s st (left st.lexer.place.current_byte.0) in
        λ i. after_step (λ after. in_agrees n after i) st.lexer (p i).state (p i).what

    pub read_agrees : (st : State) → read_from f edition s st ≡ read_from g edition s st
    unfolding read_from
    read_agrees st = in_agrees (suc (measure s st)) st

  pub reading_agrees : (edition : ℕ) (s : List ℕ) → WellFormed s → Agree f g (chars s) → reading f edition s ≡ reading g edition s
  reading_agrees edition s w a = read_agrees edition s (left_agrees s (chars s) refl w a) start_state
