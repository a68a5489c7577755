-- The turns of `check_utf8`'s loop, on plain values.
--     Going              what holds at its head: the place is inside, and the definition answers from there what it answers from the start
--     single, measured   how long the character is, by what `lead_len`, `is_two` or `is_three` has answered
--     passed             a turn over a character of that length
--     passed_block       a turn over a block, each byte of which is passed
-- Assumes nothing.
use Rattle.std.specs.Prelude.{Ok, Err}
use Prim.Native.Nat.{ℕ, zero, suc, ◌+◌, ◌-◌, ◌%◌, ◌<◌, ◌≤◌}
use native.Mathlib.Omega.{arith}
use native.Mathlib.Nat.{add-zero}
use mathlib.Core.Path.{◌≡◌, refl, sym, ap, subst, ◌∙◌}
use mathlib.Core.List.{List}
use mathlib.Core.Bool.{Bool, true}
use lib.ListN.{length, get_or, take, drop, length-drop}
use lib.Seq.{get_or-drop, get_or-take, length-take-le}
use lib.Dec.{leb, eqb}
use borrow.Author.Tests.{eqb-true, leb-true}
use Rattle.base.specs.AllLaws.{and_left, and_right, good_at}
use Rattle.base.specs.ListLaws.{rest_all}
use Rattle.utf8.specs.Read.{Read, seq_len, decode_head, read_at}
use Rattle.utf8.specs.Lengths.{len_of, is_single, is_block}
use Rattle.utf8.specs.LengthsLaws.{one_len}
use Rattle.utf8.specs.Chars.{check_from}
use Rattle.utf8.specs.CharsLaws.{at_char, check_at}
use Rattle.utf8.specs.declared.ReadError.TheVariants.{Bad, Cut}

pub record Going (s : List ℕ) (i : ℕ) : Type 0 where
  pub inside : i ≤ length s
  pub rest : check_from i (drop i s) ≡ check_from 0 s

module _ (s : List ℕ) (i : ℕ) where
  pub measured : (m : ℕ) (t : Bool) → t ≡ eqb (len_of (decode_head (take (length s - i) (drop i s)))) m → t ≡ true → m ≡ len_of (read_at s i)
  measured m t e f = sym (eqb-true _ m (sym e ∙ f)) ∙ ap (λ (l : List ℕ). len_of (decode_head l)) (rest_all s i)

  pub single : (n : ℕ) → i < length s → n ≡ seq_len (get_or s i 0) → n ≡ 1 → 1 ≡ len_of (read_at s i)
  single n h e f =
      let first : get_or (drop i s) 0 0 ≡ get_or s i 0 = get_or-drop i s 0 0 ∙ ap (λ (k : ℕ). get_or s k 0) (add-zero i) in
      sym (one_len (drop i s) (omega (arith, length-drop i s)) (ap seq_len first ∙ sym e ∙ f))

module _ (s : List ℕ) (i : ℕ) (g : Going s i) where
  passed_by : (r : Read) → read_at s i ≡ r → 0 < len_of r → Going s (i + len_of r)
  passed_by (Ok (c, n)) e h = record { inside = (at_char s i c n e).fits; rest = sym (check_at s i c n e) ∙ g.rest }
  passed_by (Err Bad) e h = absurd (omega arith)
  passed_by (Err Cut) e h = absurd (omega arith)

  pub passed : (n : ℕ) → 0 < n → n ≡ len_of (read_at s i) → Going s (i + n)
  passed n h e = subst (λ (k : ℕ). Going s (i + k)) (sym e) (passed_by (read_at s i) refl (omega arith))

-- some bytes are passed, each of which is a character of its own
passed_bytes : (s : List ℕ) (i : ℕ) → Going s i → (n : ℕ) → n ≤ length s - i → ((k : ℕ) → k < n → seq_len (get_or s (i + k) 0) ≡ 1) → Going s (i + n)
passed_bytes s i g zero h f = subst (Going s) (sym (add-zero i)) g
passed_bytes s i g (suc n) h f =
    let j = i + n in
    let e : j + 1 ≡ i + suc n = omega arith in
    let one : 1 ≡ len_of (read_at s j) = single s j (seq_len (get_or s j 0)) (omega arith) refl (f n (omega arith)) in
    subst (Going s) e (passed s j (passed_bytes s i g n (omega arith) (λ k l. f k (omega arith))) 1 (omega arith) one)

pub passed_block : (s : List ℕ) (i : ℕ) → Going s i → (t : Bool) → t ≡ is_block s i → t ≡ true → Going s (i + 128)
passed_block s i g t e f =
    let inner = and_right (eqb (i % 128) 0) _ (sym e ∙ f) in
    let room : 128 ≤ length s - i = leb-true 128 _ (and_left (leb 128 (length s - i)) _ inner) in
    let size : length (take 128 (drop i s)) ≡ 128 = length-take-le 128 (drop i s) (omega (arith, length-drop i s)) in
    passed_bytes s i g 128 room
    (λ k h.
    let byte : get_or (take 128 (drop i s)) k 0 ≡ get_or s (i + k) 0 = get_or-take 128 (drop i s) k 0 h ∙ get_or-drop i s k 0 in
    ap seq_len (sym byte) ∙ eqb-true _ 1 (good_at (is_single (take 128 (drop i s))) _ k (omega (arith, size)) (and_right (leb 128 (length s - i)) _ inner)))
