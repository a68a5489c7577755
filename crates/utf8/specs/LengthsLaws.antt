-- Where some character stands, its lead byte says how long it is, and its bytes which it is.
--     char_read                     at a place
--     one_len, two_len, three_len   how long the first character is, by the tests on its bytes
--     opens_room                    where `opens_by` holds there are so many bytes
-- Assumes nothing.
use Rattle.std.specs.Prelude.{ℕ, ◌<◌, ◌≤◌, ◌≡◌, List, Bool, ◌&&◌, length, get_or, drop, leb, Ok, Err}
use Rattle.std.proofs.Common.{arith, add-zero, sym, ◌∙◌, get_or-drop}
use Rattle.std.proofs.Math.Path.{refl, ap}
use Rattle.std.proofs.Math.Bool.{true, false, and_assoc}
use Rattle.std.proofs.Math.Dec.{eqb}
use borrow.Author.Tests.{le-ltb, eq-eqb, ne_eqb, le-leb, lt-leb, leb-true}
use Rattle.base.specs.Pick.{pick}
use Rattle.base.specs.PickLaws.{by_test, by_lt, by_eq, split_lt, split_eq}
use Rattle.base.specs.AllLaws.{and_left, and_right}
use Rattle.utf8.specs.Read.{Read, seq_len, second_ok, is_tail, code2, code3, code4, fourth, third, second, head_of, decode_head, read_at}
use Rattle.utf8.specs.ReadLaws.{sound}
use Rattle.utf8.specs.Lengths.{len_of, opens_by, char_of}
use Rattle.utf8.specs.declared.ReadError.TheVariants.{Bad, Cut}

-- l begins with some character
module _ (c n : ℕ) where
  -- so it is x, if it is r
  abbrev Only : Read → Read → Type 0
  Only x r = r ≡ Ok (c, n) → r ≡ x

  no_cut : (x : Read) → Only x (Err Cut)
  no_cut x p = absurd (let z : ◌≡◌ {A = ℕ} 0 1 = cc in omega arith)

  no_bad : (x : Read) → Only x (Err Bad)
  no_bad x p = absurd (let z : ◌≡◌ {A = ℕ} 0 1 = cc in omega arith)

  either : (t : Bool) (x y r : Read) → Only y r → Only (pick t x y) (pick t x r)
  either true x y r h p = refl
  either false x y r h p = h p

  module _ (l : List ℕ) where
    abbrev at : ℕ → ℕ
    at k = get_or l k 0

    abbrev of4 : Read
    of4 = Ok (code4 (at 0) (at 1) (at 2) (at 3), 4)

    abbrev of3 : ℕ → Read
    of3 k = pick (eqb k 3) (Ok (code3 (at 0) (at 1) (at 2), 3)) of4

    abbrev of2 : ℕ → Read
    of2 k = pick (eqb k 2) (Ok (code2 (at 0) (at 1), 2)) (of3 k)

    fourth_only : Only of4 (fourth l)
    unfolding fourth
    fourth_only =
        by_lt (Only of4) (length l) 4 (λ h. no_cut of4) (λ h. by_test (Only of4) (is_tail (at 3)) (λ t p. refl) (λ t. no_bad of4))

    module _ (k : ℕ) where
      third_only : Only (of3 k) (third k l)
      unfolding third
      third_only =
          by_lt (Only (of3 k)) (length l) 3 (λ h. no_cut (of3 k))
          (λ h. by_test (Only (of3 k)) (is_tail (at 2)) (λ t. either (eqb k 3) _ of4 (fourth l) fourth_only) (λ t. no_bad (of3 k)))

      second_only : Only (of2 k) (second k l)
      unfolding second
      second_only =
          by_lt (Only (of2 k)) (length l) 2 (λ h. no_cut (of2 k))
          (λ h. by_test (Only (of2 k)) (second_ok (at 0) (at 1)) (λ t. either (eqb k 2) _ (of3 k) (third k l) third_only) (λ t. no_bad (of2 k)))

      head_only : Only (char_of k l 0) (head_of k l)
      unfolding head_of
      head_only =
          by_test (Only (char_of k l 0)) (eqb k 0) (λ t. no_bad (char_of k l 0))
          (λ t. either (eqb k 1) _ (of2 k) (second k l) second_only)

    char_head : Only (char_of (seq_len (at 0)) l 0) (decode_head l)
    unfolding decode_head
    char_head =
        by_lt (Only (char_of (seq_len (at 0)) l 0)) (length l) 1 (λ h. no_cut (char_of (seq_len (at 0)) l 0))
        (λ h. head_only (seq_len (at 0)))

-- how long the first character is
module _ (l : List ℕ) where
  -- what it is not
  not_len : (m : ℕ) → 0 < m → (r : Read) → decode_head l ≡ r → ((c : ℕ) → decode_head l ≡ Ok (c, m) → ⊥) → eqb (len_of r) m ≡ false
  not_len m h (Ok (c, n)) e f = ne_eqb n m (λ q. f c (e ∙ ap {B = Read} (λ k. Ok (c, k)) q))
  not_len m h (Err Bad) e f = ne_eqb 0 m (λ q. omega arith)
  not_len m h (Err Cut) e f = ne_eqb 0 m (λ q. omega arith)

  cut_len : (m : ℕ) → 0 < m → length l < m → eqb (len_of (decode_head l)) m ≡ false
  cut_len m h k = not_len m h (decode_head l) refl (λ c e. omega (arith, (sound l c m e).fits))

  said : (k m : ℕ) → m < 4 → len_of (char_of k l 0) ≡ m → k ≡ m
  said k m h =
      by_eq (λ (r : Read). len_of r ≡ m → k ≡ m) k 1 (λ q e. q ∙ e)
      (λ _. by_eq (λ (r : Read). len_of r ≡ m → k ≡ m) k 2 (λ q e. q ∙ e)
      (λ _. by_eq (λ (r : Read). len_of r ≡ m → k ≡ m) k 3 (λ q e. q ∙ e) (λ _ e. omega arith)))

  other_len : (m : ℕ) → 0 < m → m < 4 → (seq_len (get_or l 0 0) ≡ m → ⊥) → eqb (len_of (decode_head l)) m ≡ false
  other_len m h k f =
      not_len m h (decode_head l) refl
      (λ c e. f (said (seq_len (get_or l 0 0)) m k (ap len_of (sym (char_head c m l e) ∙ e))))

  pub opens_room : (n : ℕ) → opens_by l n ≡ true → n ≤ length l
  opens_room n e = leb-true n (length l) (and_left (leb n (length l)) _ (and_right (eqb (seq_len (get_or l 0 0)) n) _ e))

  module _ (some : 0 < length l) where
    pub one_len : seq_len (get_or l 0 0) ≡ 1 → len_of (decode_head l) ≡ 1
    unfolding decode_head head_of
    one_len e = rw (le-ltb (length l) 1 some, e)

    -- m bytes long, where t tests those after the lead byte
    len_by_lem : (m : ℕ) (t : Bool) → 0 < m → m < 4 → (seq_len (get_or l 0 0) ≡ m → m ≤ length l → eqb (len_of (decode_head l)) m ≡ t)
        → (eqb (seq_len (get_or l 0 0)) m && (leb m (length l) && t)) ≡ eqb (len_of (decode_head l)) m
    len_by_lem m t h k f =
        split_eq (seq_len (get_or l 0 0)) m
        (λ e. split_lt (length l) m (λ short. rw (eq-eqb _ m e, lt-leb m (length l) short) (sym (cut_len m h short)))
        (λ long. rw (eq-eqb _ m e, le-leb m (length l) long) (sym (f e long))))
        (λ e. rw (ne_eqb _ m e) (sym (other_len m h k e)))

    pub two_len : opens_by l 2 ≡ eqb (len_of (decode_head l)) 2
    unfolding decode_head head_of second
    two_len =
        len_by_lem 2 (second_ok (get_or l 0 0) (get_or l 1 0)) (omega arith) (omega arith)
        (λ e h. rw (le-ltb (length l) 1 some, e, le-ltb (length l) 2 h) (tested (second_ok (get_or l 0 0) (get_or l 1 0))))
      where
        tested : (t : Bool) → eqb (len_of (pick t (Ok (code2 (get_or l 0 0) (get_or l 1 0), 2)) (Err Bad))) 2 ≡ t
        tested true = refl
        tested false = refl

    pub three_len : (opens_by l 3 && is_tail (get_or l 2 0)) ≡ eqb (len_of (decode_head l)) 3
    unfolding decode_head head_of second third
    three_len =
        let a = second_ok (get_or l 0 0) (get_or l 1 0) in
        let b = is_tail (get_or l 2 0) in
        and_assoc (eqb (seq_len (get_or l 0 0)) 3) (leb 3 (length l) && a) b
        ∙ ap (λ (t : Bool). eqb (seq_len (get_or l 0 0)) 3 && t) (and_assoc (leb 3 (length l)) a b)
        ∙ len_by_lem 3 (a && b) (omega arith) (omega arith)
        (λ e h. rw (le-ltb (length l) 1 some, e, le-ltb (length l) 2 (omega arith), le-ltb (length l) 3 h) (tested a b))
      where
        tested : (t u : Bool) → eqb (len_of (pick t (pick u (Ok (code3 (get_or l 0 0) (get_or l 1 0) (get_or l 2 0), 3)) (Err Bad)) (Err Bad))) 3 ≡ (t && u)
        tested true true = refl
        tested true false = refl
        tested false u = refl

pub char_read : (s : List ℕ) (i c n : ℕ) → read_at s i ≡ Ok (c, n) → read_at s i ≡ char_of (seq_len (get_or s i 0)) s i
char_read s i c n p =
    let first : get_or (drop i s) 0 0 ≡ get_or s i 0 = get_or-drop i s 0 0 ∙ ap (λ (k : ℕ). get_or s k 0) (add-zero i) in
    rw (first, get_or-drop i s 1 0, get_or-drop i s 2 0, get_or-drop i s 3 0) at (char_head c n (drop i s) p)
