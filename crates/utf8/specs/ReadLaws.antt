-- What `decode_head` finds, against `encode`, both ways. l are the bytes from a place on.
--     sound         a character that it finds is one: the bytes that it took are the encoding of a scalar value
--     complete      the encoding of a scalar value, with anything after it, is found
--     cut_begins    where it answers `Cut`, the bytes are a proper beginning of a character
--     begins_cut    where they are, it answers `Cut`
-- What follows of `Bad`, and that no second answer fits, is in `MeaningLaws`.
-- Assumes nothing.
use Rattle.std.specs.Prelude.{ℕ, suc, ◌+◌, ◌/◌, ◌%◌, ◌<◌, ◌≤◌, ◌≡◌, ◌⊎◌, Bool, true, false, ltb, eqb, length, get_or, drop, Ok, Err}
use Rattle.std.proofs.Common.{arith, sym, ap, ◌∙◌, inl, ⊎_elim, length-append, drop_of_length-le, drop-cons, le-ltb}
use Rattle.std.proofs.Math.Path.{refl, subst}
use Rattle.std.proofs.Math.Logic.{inr}
use mathlib.Core.List.{List, [], ◌∷◌, ◌++◌, append-nil}
use Rattle.std.proofs.Math.ListN.{get_or-append}
use Rattle.std.proofs.Math.Seq.{drop-length}
use Rattle.base.specs.Pick.{pick}
use Rattle.base.specs.PickLaws.{by_test, by_lt, by_eq, split_lt, split_eq}
use Rattle.base.specs.RangeLaws.{inside_is}
use Rattle.utf8.specs.Encode.{Scalar, encode, Begins}
use Rattle.utf8.specs.EncodeLaws.{begins_less}
use Rattle.utf8.specs.Read.{Read, seq_len, second_ok, is_tail, code2, code3, code4, fourth, third, second, head_of, decode_head}
use Rattle.utf8.specs.GrammarLaws.{lead, Second, second_is_lem, Sound, sound1, sound2, sound3, sound4, found1, found2, found3, found4, back2, back3, back4}
use Rattle.utf8.specs.declared.ReadError.TheVariants.{Bad, Cut}

-- ---- bytes that are cut begin a character: a byte that may follow is put after them, until there are enough

begins : (l m : List ℕ) (c : ℕ) → Sound (l ++ m) c (length (l ++ m)) → 0 < length m → Begins l
begins l m c s h =
    record {
      code = c;
      scalar = s.scalar;
      more = m;
      left = h;
      same = sym (s.bytes ∙ ap (λ (r : List ℕ). encode c ++ r) (drop-length (l ++ m)) ∙ append-nil (encode c));
    }

-- a byte that may follow a
next : (a : ℕ) → (b : ℕ) × Second a b
next a =
    split_eq a 0xe0 (λ e. (0xa0, omega arith)) (λ h. split_eq a 0xf0 (λ e. (0x90, omega arith)) (λ k. (
      0x80,
      record { low = omega arith; high = omega arith; e0 = λ e. absurd (h e); ed = omega arith; f0 = λ e. absurd (k e); f4 = omega arith },
    )))

cut3 : (a b d : ℕ) → seq_len a ≡ 4 → Second a b → 0x80 ≤ d → d ≤ 0xbf → Begins (a ∷ b ∷ d ∷ [])
cut3 a b d e s h k =
    let w = (lead a).four e in
    begins (a ∷ b ∷ d ∷ []) (0x80 ∷ []) _ (sound4 a b d 0x80 _ [] refl w.0 w.1 s h k (omega arith) (omega arith)) (omega arith)

cut2 : (a b n : ℕ) → seq_len a ≡ n → 3 ≤ n → n ≤ 4 → Second a b → Begins (a ∷ b ∷ [])
cut2 a b n e h k s =
    split_eq n 3
    (λ x. let w = (lead a).three (e ∙ x) in
    begins (a ∷ b ∷ []) (0x80 ∷ []) _ (sound3 a b 0x80 _ [] refl w.0 w.1 s (omega arith) (omega arith)) (omega arith))
    (λ x. let y : n ≡ 4 = omega arith in
    begins_less (a ∷ b ∷ []) (0x80 ∷ []) (cut3 a b 0x80 (e ∙ y) s (omega arith) (omega arith)))

cut1 : (a n : ℕ) → seq_len a ≡ n → 2 ≤ n → n ≤ 4 → Begins (a ∷ [])
cut1 a n e h k =
    let b = (next a).0 in
    let s = (next a).1 in
    split_eq n 2
    (λ x. let w = (lead a).two (e ∙ x) in
    begins (a ∷ []) (b ∷ []) _ (sound2 a b _ [] refl w.0 w.1 s.low s.high) (omega arith))
    (λ x. begins_less (a ∷ []) (b ∷ []) (cut2 a b n e (omega arith) k s))

cut0 : Begins []
unfolding encode
cut0 = record { code = 0; scalar = omega arith; more = 0 ∷ []; left = omega arith; same = refl }

-- ---- what each answer says of the bytes

abbrev Good : List ℕ → Read → Type 0
Good l (Ok (c, n)) = Sound l c n
Good l (Err Bad) = Unit {0}
Good l (Err Cut) = Begins l

module _ (l : List ℕ) where
  abbrev at : ℕ → ℕ
  at k = get_or l k 0

  -- the bytes that are there, one by one
  bytes1 : 1 ≤ length l → at 0 ∷ drop 1 l ≡ l
  bytes1 h = sym (drop-cons l 0 0 h)

  pub bytes2 : 2 ≤ length l → at 0 ∷ at 1 ∷ drop 2 l ≡ l
  bytes2 h = ap {B = List ℕ} (λ r. at 0 ∷ r) (sym (drop-cons l 1 0 h)) ∙ bytes1 (omega arith)

  pub bytes3 : 3 ≤ length l → at 0 ∷ at 1 ∷ at 2 ∷ drop 3 l ≡ l
  bytes3 h = ap {B = List ℕ} (λ r. at 0 ∷ at 1 ∷ r) (sym (drop-cons l 2 0 h)) ∙ bytes2 (omega arith)

  bytes4 : 4 ≤ length l → at 0 ∷ at 1 ∷ at 2 ∷ at 3 ∷ drop 4 l ≡ l
  bytes4 h = ap {B = List ℕ} (λ r. at 0 ∷ at 1 ∷ at 2 ∷ r) (sym (drop-cons l 3 0 h)) ∙ bytes3 (omega arith)

  -- there are no more
  none : (k : ℕ) → length l < suc k → drop k l ≡ []
  none k h = drop_of_length-le l {i = k} (omega arith)

  module _ (n : ℕ) (e : seq_len (at 0) ≡ n) where
    most : n ≤ 4
    most = subst (λ (k : ℕ). k ≤ 4) e (lead (at 0)).most

    good4 : 3 ≤ length l → n ≡ 4 → second_ok (at 0) (at 1) ≡ true → is_tail (at 2) ≡ true → Good l (fourth l)
    unfolding fourth
    good4 h x s t =
        let w = (lead (at 0)).four (e ∙ x) in
        let v = second_is_lem (at 0) (at 1) s in
        let y = inside_is (at 2) 0x80 0xbf t in
        by_lt (Good l) (length l) 4
        (λ k. subst Begins (rw (none 3 k) at (bytes3 h)) (cut3 (at 0) (at 1) (at 2) (e ∙ x) v y.0 y.1))
        (λ k. by_test (Good l) (is_tail (at 3))
        (λ u. let z = inside_is (at 3) 0x80 0xbf u in
        subst (λ (r : List ℕ). Sound r (code4 (at 0) (at 1) (at 2) (at 3)) 4) (bytes4 k)
        (sound4 (at 0) (at 1) (at 2) (at 3) _ (drop 4 l) refl w.0 w.1 v y.0 y.1 z.0 z.1))
        (λ u. tt))

    good3 : 2 ≤ length l → 3 ≤ n → second_ok (at 0) (at 1) ≡ true → Good l (third n l)
    unfolding third
    good3 h x s =
        let v = second_is_lem (at 0) (at 1) s in
        by_lt (Good l) (length l) 3
        (λ k. subst Begins (rw (none 2 k) at (bytes2 h)) (cut2 (at 0) (at 1) n e x most v))
        (λ k. by_test (Good l) (is_tail (at 2))
        (λ t. let y = inside_is (at 2) 0x80 0xbf t in
        by_eq (Good l) n 3
        (λ z. let w = (lead (at 0)).three (e ∙ z) in
        subst (λ (r : List ℕ). Sound r (code3 (at 0) (at 1) (at 2)) 3) (bytes3 k)
        (sound3 (at 0) (at 1) (at 2) _ (drop 3 l) refl w.0 w.1 v y.0 y.1))
        (λ z. good4 k (omega (arith, most)) s t))
        (λ t. tt))

    good2 : 1 ≤ length l → 2 ≤ n → Good l (second n l)
    unfolding second
    good2 h x =
        by_lt (Good l) (length l) 2
        (λ k. subst Begins (rw (none 1 k) at (bytes1 h)) (cut1 (at 0) n e x most))
        (λ k. by_test (Good l) (second_ok (at 0) (at 1))
        (λ s. let v = second_is_lem (at 0) (at 1) s in
        by_eq (Good l) n 2
        (λ z. let w = (lead (at 0)).two (e ∙ z) in
        subst (λ (r : List ℕ). Sound r (code2 (at 0) (at 1)) 2) (bytes2 k)
        (sound2 (at 0) (at 1) _ (drop 2 l) refl w.0 w.1 v.low v.high))
        (λ z. good3 k (omega arith) s))
        (λ s. tt))

    good1 : 1 ≤ length l → Good l (head_of n l)
    unfolding head_of
    good1 h =
        by_eq (Good l) n 0 (λ x. tt)
        (λ x. by_eq (Good l) n 1
        (λ z. subst (λ (r : List ℕ). Sound r (at 0) 1) (bytes1 h) (sound1 (at 0) (drop 1 l) ((lead (at 0)).one (e ∙ z))))
        (λ z. good2 h (omega arith)))

  good : Good l (decode_head l)
  unfolding decode_head
  good = by_lt (Good l) (length l) 1 (λ h. subst Begins (sym (none 0 h)) cut0) (λ h. good1 (seq_len (at 0)) refl h)

  pub sound : (c n : ℕ) → decode_head l ≡ Ok (c, n) → Sound l c n
  sound c n e = subst (Good l) e good

  pub cut_begins : decode_head l ≡ Err Cut → Begins l
  cut_begins e = subst (Good l) e good

-- ---- what is right is found

pub complete : (c : ℕ) (r : List ℕ) → Scalar c → decode_head (encode c ++ r) ≡ Ok (c, length (encode c))
unfolding encode
complete c r w =
    by_lt P c 0x80 (λ h. found1 c r h)
    (λ h. by_lt P c 0x800
    (λ k. found2 (0xc0 + c / 64) (0x80 + c % 64) r (omega arith) (omega arith) (omega arith) ∙ ap {B = Read} (λ x. Ok (x, 2)) (back2 c k))
    (λ k. by_lt P c 0x10000
    (λ m. found3 (0xe0 + c / 4096) (0x80 + c / 64 % 64) (0x80 + c % 64) r (omega arith) (omega arith)
    (record {
      low = omega arith;
      high = omega arith;
      e0 = omega arith;
      ed = λ e. split_lt c 0xd800 (λ x. omega arith) (λ x. absurd (w.whole x (omega arith)));
      f0 = omega arith;
      f4 = omega arith;
    })
    (omega arith) (omega arith)
    ∙ ap {B = Read} (λ x. Ok (x, 3)) (back3 c m))
    (λ m. found4 (0xf0 + c / 262144) (0x80 + c / 4096 % 64) (0x80 + c / 64 % 64) (0x80 + c % 64) r (omega arith) (omega arith) (omega arith)
    (omega arith) (omega arith) (omega arith) (omega arith)
    ∙ ap {B = Read} (λ x. Ok (x, 4)) (back4 c w.small))))
  where
    P : List ℕ → Type 0
    P l = decode_head (l ++ r) ≡ Ok (c, length l)

-- ---- what begins a character is cut: more bytes change no other answer

abbrev Stays : Read → Read → Type 0
Stays r q = (r ≡ Err Cut) ⊎ (q ≡ r)

both : (t : Bool) {a b c d : Read} → (t ≡ true → Stays a c) → (t ≡ false → Stays b d) → Stays (pick t a b) (pick t c d)
both true f g = f refl
both false f g = g refl

module _ (l m : List ℕ) where
  long : (k : ℕ) {a b : Read} → (k ≤ length l → Stays a b) → Stays (pick (ltb (length l) k) (Err Cut) a) (pick (ltb (length (l ++ m)) k) (Err Cut) b)
  long k {a} {b} f =
      by_lt (λ (r : Read). Stays r (pick (ltb (length (l ++ m)) k) (Err Cut) b)) (length l) k (λ h. inl refl)
      (λ h. rw (le-ltb (length (l ++ m)) k (omega (arith, length-append l m))) (f h))

  same : (k : ℕ) → k < length l → get_or (l ++ m) k 0 ≡ get_or l k 0
  same k h = get_or-append l m 0 k h

  stays4 : Stays (fourth l) (fourth (l ++ m))
  unfolding fourth
  stays4 =
      long 4
      (λ k. rw (same 0 (omega arith), same 1 (omega arith), same 2 (omega arith), same 3 (omega arith))
      (both (is_tail (get_or l 3 0)) (λ t. inr refl) (λ t. inr refl)))

  stays3 : (n : ℕ) → Stays (third n l) (third n (l ++ m))
  unfolding third
  stays3 n =
      long 3
      (λ k. rw (same 0 (omega arith), same 1 (omega arith), same 2 (omega arith))
      (both (is_tail (get_or l 2 0)) (λ t. both (eqb n 3) (λ e. inr refl) (λ e. stays4)) (λ t. inr refl)))

  stays2 : (n : ℕ) → Stays (second n l) (second n (l ++ m))
  unfolding second
  stays2 n =
      long 2
      (λ k. rw (same 0 (omega arith), same 1 (omega arith))
      (both (second_ok (get_or l 0 0) (get_or l 1 0)) (λ t. both (eqb n 2) (λ e. inr refl) (λ e. stays3 n)) (λ t. inr refl)))

  stays : Stays (decode_head l) (decode_head (l ++ m))
  unfolding decode_head head_of
  stays =
      long 1
      (λ k. rw (same 0 k)
      (both (eqb (seq_len (get_or l 0 0)) 0) (λ e. inr refl)
      (λ e. both (eqb (seq_len (get_or l 0 0)) 1) (λ f. inr refl) (λ f. stays2 (seq_len (get_or l 0 0))))))

pub begins_cut : (l : List ℕ) → Begins l → decode_head l ≡ Err Cut
begins_cut l b =
    let c = b.code in
    let n = length (encode c) in
    let whole : decode_head (l ++ b.more) ≡ Ok (c, n) = ap decode_head (sym b.same ∙ sym (append-nil (encode c))) ∙ complete c [] b.scalar in
    ⊎_elim (λ e. e)
    (λ e. let w = sound l c n (sym e ∙ whole) in
    absurd (omega (arith, w.fits, b.left, ap length b.same, length-append l b.more)))
    (stays l b.more)
