-- Laws of first clusters, over the edition and the look-up.
--     first_is_shortest, one_shortest    `first_size` is `Shortest`, and no second number is
--     first_some, first_within    the first cluster of some text is not empty, and is no longer than the text
--     first_at_lem                 what a caller of `cluster_end` knows: the end is inside, what stands from it on is well formed, and is `first_rest`
--     no_longer, no_longer_end    a cluster of edition 1 is no longer than that of edition 2, in characters and in bytes
--     Agree, same_first        look-ups that agree on the code points that occur give the same cluster
--     plain_forgets            where a cluster begins with a plain character, nothing that stands left of it matters
--     second_plain             so such a second cluster is what is read from the first one's end as if the text began there
--     second_by_first          the second cluster is exactly such a character where reading a first cluster from there gives its one byte
-- Assumes nothing.
use Prim.Native.Nat.{ℕ, zero, suc, ◌+◌, ◌<◌, ◌≤◌}
use native.Mathlib.Omega.{arith}
use Rattle.std.specs.Prelude.{◌≡◌, Bool, true, false, ◌&&◌, ◌||◌, get_or, take, drop}
use Rattle.std.proofs.Math.Path.{refl, ap}
use Rattle.std.proofs.Common.{◌∙◌}
use mathlib.Core.List.{List, [], ◌∷◌, ◌++◌}
use Rattle.std.proofs.Math.Dec.{eqb}
use Rattle.std.proofs.Math.ListN.{length, length-append}
use borrow.Author.Tests.{lt-ltb, le-ltb, eq-eqb, ne_eqb}
use Rattle.base.specs.PickLaws.{by_test, split_lt, split_eq}
use Rattle.utf8.specs.Encode.{encode, encode_all, WellFormed}
use Rattle.utf8.specs.EncodeLaws.{encode1, encode_some}
use Rattle.utf8.specs.Chars.{chars}
use Rattle.utf8.specs.CharsLaws.{After, after_chars}
use Rattle.property.specs.Parts.{class_of}
use Rattle.uax29.specs.Uax29.{pair_rule, ends_pict, ends_pict_zwj, ends_odd, ends_consonant, ends_linked, gb9c, gb11, gb12, on_open, joined}
use Rattle.cluster.specs.First.{before, break_after, Shortest, go_on, cluster_size, first_size, first_end, first_rest, second_size, second_is}
use Rattle.uax29.specs.Uax29Laws.{or_right}
use Rattle.uax29.specs.State.{left_of}
use Rattle.cluster.specs.SameLaws.{same_left}
use Rattle.uax29.specs.declared.Pair.{Pair}
use Rattle.uax29.specs.declared.Pair.TheVariants.{Joined, Broken, Open}

-- ---- the shortest beginning after which there is a break

-- n characters of cs go on with the cluster that left ends in: no break before any of them, and a break after them
record Goes (look : ℕ → ℕ) (edition : ℕ) (left cs : List ℕ) (n : ℕ) : Type 0 where
  within : n ≤ length cs
  inside : (k : ℕ) → k < n → joined edition (before look left k cs) (look (get_or cs k 0)) ≡ true
  after : n < length cs → joined edition (before look left n cs) (look (get_or cs n 0)) ≡ false

module _ (look : ℕ → ℕ) (edition : ℕ) where
  one_on :
      (left : List ℕ) (c : ℕ) (cs : List ℕ) (n : ℕ) → joined edition left (look c) ≡ true → Goes look edition (look c ∷ left) cs n
      → Goes look edition left (c ∷ cs) (suc n)
  one_on left c cs n t w = record { within = omega (arith, w.within); inside = go; after = λ h. w.after (omega arith) }
    where
      go : (k : ℕ) → k < suc n → joined edition (before look left k (c ∷ cs)) (look (get_or (c ∷ cs) k 0)) ≡ true
      go zero h = t
      go (suc k) h = w.inside k (omega arith)

  goes : (left cs : List ℕ) → Goes look edition left cs (go_on look edition left cs)
  unfolding go_on
  goes left [] = record { within = omega arith; inside = λ k h. absurd (omega arith); after = λ h. absurd (omega arith) }
  goes left (c ∷ cs) =
      by_test (Goes look edition left (c ∷ cs)) (joined edition left (look c))
      (λ t. one_on left c cs (go_on look edition (look c ∷ left) cs) t (goes (look c ∷ left) cs))
      (λ t. record { within = omega arith; inside = λ k h. absurd (omega arith); after = λ h. t })

  pub first_is_shortest : (c : ℕ) (cs : List ℕ) → Shortest look edition (c ∷ cs) (first_size look edition (c ∷ cs))
  first_is_shortest c cs =
      record { some = omega arith; within = omega (arith, w.within); break_after_lem = last; none_shorter = inner }
    where
      n : ℕ
      n = go_on look edition (look c ∷ []) cs

      w : Goes look edition (look c ∷ []) cs n
      w = goes (look c ∷ []) cs

      last : break_after look edition (c ∷ cs) (suc n) ≡ true
      last =
          split_lt (suc n) (suc (length cs)) (λ h. rw (lt-ltb (suc n) (suc (length cs)) h, w.after (omega arith)))
          (λ h. rw (le-ltb (suc n) (suc (length cs)) h))

      inner : (k : ℕ) → 0 < k → k < suc n → break_after look edition (c ∷ cs) k ≡ false
      inner zero h l = absurd (omega arith)
      inner (suc k) h l = rw (lt-ltb (suc k) (suc (length cs)) (omega (arith, w.within)), w.inside k (omega arith))

  module _ (cs : List ℕ) where
    -- of two first clusters neither is shorter: where the shorter ends there is a break, and inside the longer there is none
    not_shorter : (n m : ℕ) → Shortest look edition cs n → Shortest look edition cs m → m ≤ n
    not_shorter n m p q =
        split_lt n m
        (λ h. let a = p.break_after_lem in
        let b = q.none_shorter n p.some h in
        let z : ◌≡◌ {A = ℕ} 0 1 = cc in
        absurd (omega arith))
        (λ h. h)

    pub one_shortest : (n m : ℕ) → Shortest look edition cs n → Shortest look edition cs m → n ≡ m
    one_shortest n m p q = omega (arith, not_shorter n m p q, not_shorter m n q p)

  pub first_within : (cs : List ℕ) → first_size look edition cs ≤ length cs
  first_within [] = omega arith
  first_within (c ∷ cs) = (first_is_shortest c cs).within

  pub first_some : (i c : ℕ) (cs : List ℕ) → i < first_end look edition i (c ∷ cs)
  unfolding encode_all
  first_some i c cs =
      omega (arith, encode_some c, length-append (encode c) (encode_all (take (go_on look edition (look c ∷ []) cs) cs)))

  -- the end of the first cluster of what stands from the place i of s on
  pub first_at_lem : (s : List ℕ) (i : ℕ) → i ≤ length s → WellFormed (drop i s)
      → After s (first_end look edition i (chars (drop i s))) (first_rest look edition (chars (drop i s)))
  first_at_lem s i h w = after_chars s i h w (first_size look edition (chars (drop i s)))

-- ---- GB9c only joins

joined_more : (left : List ℕ) (p : ℕ) → joined 1 left p ≡ true → joined 2 left p ≡ true
unfolding gb9c
joined_more left p e =
    go (pair_rule (class_of (get_or left 0 0)) (class_of p)) (gb9c 2 (ends_linked left) p) (gb11 (ends_pict_zwj left) p || gb12 (ends_odd left) p) e
  where
    go : (q : Pair) (x r : Bool) → on_open q r ≡ true → on_open q (x || r) ≡ true
    go Joined x r e = refl
    go Broken x r e = e
    go Open x r e = or_right x r e

-- fewer characters have no more bytes
fewer_bytes : (cs : List ℕ) (m n : ℕ) → m ≤ n → length (encode_all (take m cs)) ≤ length (encode_all (take n cs))
unfolding encode_all
fewer_bytes cs zero n h = omega arith
fewer_bytes [] (suc m) n h = omega arith
fewer_bytes (c ∷ cs) (suc m) zero h = absurd (omega arith)
fewer_bytes (c ∷ cs) (suc m) (suc n) h =
    omega
    (arith, fewer_bytes cs m n (omega arith), length-append (encode c) (encode_all (take m cs)), length-append (encode c) (encode_all (take n cs)))

module _ (look : ℕ → ℕ) where
  goes_no_longer : (left cs : List ℕ) → go_on look 1 left cs ≤ go_on look 2 left cs
  unfolding go_on
  goes_no_longer left [] = omega arith
  goes_no_longer left (c ∷ cs) =
      by_test (λ (r : ℕ). r ≤ go_on look 2 left (c ∷ cs)) (joined 1 left (look c))
      (λ t. rw (joined_more left (look c) t) (omega (arith, goes_no_longer (look c ∷ left) cs))) (λ t. omega arith)

  pub no_longer : (cs : List ℕ) → first_size look 1 cs ≤ first_size look 2 cs
  no_longer [] = omega arith
  no_longer (c ∷ cs) = omega (arith, goes_no_longer (look c ∷ []) cs)

  pub no_longer_end : (i : ℕ) (cs : List ℕ) → first_end look 1 i cs ≤ first_end look 2 i cs
  no_longer_end i cs = omega (arith, fewer_bytes cs (first_size look 1 cs) (first_size look 2 cs) (no_longer cs))

-- ---- only the code points that occur matter

-- f and g give the code points of the list the same properties
abbrev pub Agree : (ℕ → ℕ) → (ℕ → ℕ) → List ℕ → Type 0
Agree f g [] = Unit {0}
Agree f g (c ∷ cs) = (f c ≡ g c) × Agree f g cs

module _ (f g : ℕ → ℕ) (edition : ℕ) where
  same_goes : (left cs : List ℕ) → Agree f g cs → go_on f edition left cs ≡ go_on g edition left cs
  unfolding go_on
  same_goes left [] a = refl
  same_goes left (c ∷ cs) a = rw (a.0, same_goes (g c ∷ left) cs a.1)

  pub same_first : (cs : List ℕ) → Agree f g cs → first_size f edition cs ≡ first_size g edition cs
  same_first [] a = refl
  same_first (c ∷ cs) a = rw (a.0, same_goes (g c ∷ []) cs a.1)

-- ---- a plain character: one column wide, and nothing else. Every fit table says so of "<", "^" and ">"

abbrev pub plain : ℕ
plain = 4

forgets : (left : List ℕ) → left_of (plain ∷ left) ≡ left_of (plain ∷ [])
unfolding ends_pict ends_pict_zwj ends_odd ends_consonant ends_linked
forgets left = refl

module _ (look : ℕ → ℕ) (edition : ℕ) where
  pub plain_forgets : (left : List ℕ) (c : ℕ) (cs : List ℕ) → look c ≡ plain
      → cluster_size look edition left (c ∷ cs) ≡ first_size look edition (c ∷ cs)
  plain_forgets left c cs e = rw e (ap suc (same_left look edition (plain ∷ left) (plain ∷ []) cs (forgets left)))

  pub second_plain : (cs : List ℕ) (c : ℕ) (rest : List ℕ) → first_rest look edition cs ≡ c ∷ rest → look c ≡ plain
      → second_size look edition cs ≡ first_size look edition (first_rest look edition cs)
  second_plain cs c rest p e = rw p (plain_forgets (before look [] (first_size look edition cs) cs) c rest e)

  -- m characters have m bytes or more
  count_bytes : (cs : List ℕ) (m : ℕ) → m ≤ length cs → m ≤ length (encode_all (take m cs))
  unfolding encode_all
  count_bytes cs zero h = omega arith
  count_bytes [] (suc m) h = absurd (omega arith)
  count_bytes (c ∷ cs) (suc m) h =
      omega (arith, count_bytes cs m (omega arith), encode_some c, length-append (encode c) (encode_all (take m cs)))

  -- one byte is one character
  one_byte_lem : (e c : ℕ) (cs : List ℕ) → c < 0x80 → eqb (first_size look edition (c ∷ cs)) 1 ≡ eqb (first_end look edition e (c ∷ cs)) (e + 1)
  unfolding encode_all
  one_byte_lem e c cs h =
      let m = go_on look edition (look c ∷ []) cs in
      let more = encode_all (take m cs) in
      let b = count_bytes cs m (omega (arith, first_within look edition (c ∷ cs))) in
      let n : length (encode c ++ more) ≡ suc (length more) = rw (encode1 c h) in
      split_eq m 0
      (λ z. let y : length more ≡ 0 = rw z in rw (eq-eqb (suc m) 1 (omega arith), eq-eqb (e + length (encode c ++ more)) (e + 1) (omega arith)))
      (λ z. rw (ne_eqb (suc m) 1 (λ x. omega arith), ne_eqb (e + length (encode c ++ more)) (e + 1) (λ x. omega arith)))

  pub second_by_first : (cs : List ℕ) (e c : ℕ) → c < 0x80 → look c ≡ plain → second_is look edition cs c
      ≡ (eqb (get_or (first_rest look edition cs) 0 0) c && eqb (first_end look edition e (first_rest look edition cs)) (e + 1))
  unfolding encode_all
  second_by_first cs e c h p = go (before look [] (first_size look edition cs) cs) (first_rest look edition cs)
    where
      go : (left rest : List ℕ) → (eqb (get_or rest 0 0) c && eqb (cluster_size look edition left rest) 1)
          ≡ (eqb (get_or rest 0 0) c && eqb (first_end look edition e rest) (e + 1))
      go left [] = rw (ne_eqb (e + 0) (e + 1) (λ x. omega arith))
      go left (d ∷ ds) =
          split_eq d c
          (λ x. let q : look d ≡ plain = ap look x ∙ p in
          let n : d < 0x80 = omega arith in
          ap (λ (t : Bool). eqb d c && t) (ap (λ (k : ℕ). eqb k 1) (plain_forgets left d ds q) ∙ one_byte_lem e d ds n))
          (λ x. rw (ne_eqb d c x))
