-- What the loop of `cluster_end` keeps, and one step of it at a place of the bytes.
--     Past              some characters have been passed, and the answer from here is the answer from the start
--     first, one_more_lem   it holds after the first character, and after one more
--     at_break, at_end  what it gives where no rule joins the next character, and at the end
--     nothing           the answer where there are no bytes
-- Assumes nothing.
use Rattle.std.specs.Prelude.{Ok}
use Prim.Native.Nat.{ℕ, suc, ◌+◌, ◌≤◌}
use native.Mathlib.Omega.{arith}
use mathlib.Core.Path.{◌≡◌, sym, ap, ◌∙◌}
use mathlib.Core.List.{List, [], ◌∷◌}
use mathlib.Core.Bool.{true, false}
use lib.ListN.{length, take, drop, length-append}
use Rattle.utf8.specs.Encode.{encode, encode_all, WellFormed}
use Rattle.utf8.specs.Read.{read_at}
use Rattle.utf8.specs.Chars.{chars, At}
use Rattle.utf8.specs.CharsLaws.{at_char, rest_at, chars_end}
use Rattle.uax29.specs.Uax29.{joined}
use Rattle.cluster.specs.First.{go_on, first_end}
use Rattle.uax29.specs.State.{left_of, passed, joined_by}
use Rattle.uax29.specs.StateLaws.{step, by_state}
use Rattle.uax29.specs.declared.Left.{Left}

-- a character's bytes, and those of m characters after it
bytes_on : (i c n m : ℕ) (cs : List ℕ) → length (encode c) ≡ n
    → i + length (encode_all (take (suc m) (c ∷ cs))) ≡ i + n + length (encode_all (take m cs))
unfolding encode_all
bytes_on i c n m cs e = omega (arith, e, length-append (encode c) (encode_all (take m cs)))

module _ (look : ℕ → ℕ) (edition : ℕ) (s : List ℕ) where
  -- the definition's answer from the place i on, with past left of it
  abbrev from : List ℕ → ℕ → ℕ
  from past i = i + length (encode_all (take (go_on look edition past (chars (drop i s))) (chars (drop i s))))

  module _ (i c n : ℕ) (a : At s i c n) where
    begin : first_end look edition i (chars (drop i s)) ≡ from (look c ∷ []) (i + n)
    begin = rw a.step (bytes_on i c n (go_on look edition (look c ∷ []) (chars (drop (i + n) s))) (chars (drop (i + n) s)) a.width)

    go_on_lem : (past : List ℕ) → joined edition past (look c) ≡ true → from past i ≡ from (look c ∷ past) (i + n)
    unfolding go_on
    go_on_lem past t =
        rw (a.step, t) (bytes_on i c n (go_on look edition (look c ∷ past) (chars (drop (i + n) s))) (chars (drop (i + n) s)) a.width)

    stop : (past : List ℕ) → joined edition past (look c) ≡ false → from past i ≡ i
    unfolding go_on encode_all
    stop past t = rw (a.step, t) (omega arith)

  ended : (past : List ℕ) (i : ℕ) → length s ≤ i → from past i ≡ i
  unfolding go_on encode_all
  ended past i h = rw (chars_end s i h) (omega arith)

  pub nothing : (i : ℕ) → length s ≤ i → first_end look edition i (chars (drop i s)) ≡ i
  unfolding encode_all
  nothing i h = rw (chars_end s i h) (omega arith)

  -- at the place i, with the state left
  pub record Past (at : ℕ) (left : Left) (i : ℕ) : Type 0 where
    pub past : List ℕ
    pub state : left ≡ left_of past
    pub well : WellFormed (drop i s)
    pub answer : from past i ≡ first_end look edition at (chars (drop at s))

  -- the first character has been passed
  pub first : (at c n : ℕ) → WellFormed (drop at s) → read_at s at ≡ Ok (c, n) → Past at (passed (left_of []) (look c)) (at + n)
  first at c n w e =
      record {
        past = look c ∷ [];
        state = step [] (look c);
        well = rest_at s at c n w e;
        answer = sym (begin at c n (at_char s at c n e));
      }

  module _ (at : ℕ) (left : Left) (i : ℕ) (v : Past at left i) where
    pub at_end : length s ≤ i → i ≡ first_end look edition at (chars (drop at s))
    at_end h = sym (ended v.past i h) ∙ v.answer

    module _ (c n : ℕ) (e : read_at s i ≡ Ok (c, n)) where
      by_past : joined edition v.past (look c) ≡ joined_by edition left (look c)
      by_past = sym (by_state edition v.past (look c)) ∙ ap (λ (l : Left). joined_by edition l (look c)) (sym v.state)

      pub at_break : joined_by edition left (look c) ≡ false → i ≡ first_end look edition at (chars (drop at s))
      at_break t = sym (stop i c n (at_char s i c n e) v.past (by_past ∙ t)) ∙ v.answer

      pub one_more_lem : joined_by edition left (look c) ≡ true → Past at (passed left (look c)) (i + n)
      one_more_lem t =
          record {
            past = look c ∷ v.past;
            state = ap (λ (l : Left). passed l (look c)) v.state ∙ step v.past (look c);
            well = rest_at s i c n v.well e;
            answer = sym (go_on_lem i c n (at_char s i c n e) v.past (by_past ∙ t)) ∙ v.answer;
          }
