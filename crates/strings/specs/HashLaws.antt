-- Laws of the hashes after a quote, at a place of the bytes.
--     hash_more, hash_none, hash_zero     the count from one byte on
--     counted                             the hashes that are counted stand there
--     pass_hashes                         hashes after whole characters are so many more
--     Counting, counts, more, missing, all     the loop that counts them: what it keeps, a turn, and its ways out
-- Assumes nothing.
use Prim.Native.Nat.{ℕ, zero, suc, ◌+◌, ◌-◌, ◌≤◌, ◌<◌}
use Rattle.std.proofs.Common.{arith, sym, subst, ◌∙◌, eq-eqb, ne_eqb, eqb-true}
use Rattle.std.specs.Prelude.{◌≡◌, List, [], ◌∷◌, length, drop, Ok}
use Rattle.std.proofs.Math.Path.{refl, ap}
use Rattle.base.specs.PickLaws.{split_lt, split_eq}
use Rattle.utf8.specs.Encode.{WellFormed}
use Rattle.utf8.specs.Read.{read_at}
use Rattle.utf8.specs.Chars.{chars}
use Rattle.text.specs.Bytes.{byte_at}
use Rattle.text.specs.Tests.{hash}
use Rattle.text.specs.CountLaws.{skip_one}
use Rattle.text.specs.Stands.{Passes}
use Rattle.text.specs.FollowLaws.{here, chars_end, ascii_head, head_is, one_more_lem, byte_within}
use Rattle.strings.specs.ConsumeRawString.{hashes}
use Rattle.strings.specs.Delimited.{Hashes}

pub hash_zero : (l : List ℕ) → hashes 0 l ≡ 0
unfolding hashes
hash_zero [] = refl
hash_zero (c ∷ l) = refl

module _ (s : List ℕ) where
  pub hash_more : (most j : ℕ) → byte_at s j ≡ hash → hashes (suc most) (chars (drop j s)) ≡ suc (hashes most (chars (drop (j + 1) s)))
  unfolding hashes
  hash_more most j e = rw (ascii_head s j hash e (omega arith)).step

  -- no hash, by the character
  other : (most c : ℕ) (cs : List ℕ) → (c ≡ hash → ⊥) → hashes most (c ∷ cs) ≡ 0
  unfolding hashes
  other zero c cs n = refl
  other (suc most) c cs n = rw (ne_eqb c hash n, hashes)

  is_hash : (j c n : ℕ) → read_at s j ≡ Ok (c, n) → j < length s → c ≡ hash → byte_at s j ≡ hash
  is_hash j c n r k e = eqb-true (byte_at s j) hash (sym (head_is s j c n hash r k (omega arith)) ∙ eq-eqb c hash e)

  pub hash_none : (most j : ℕ) → WellFormed (drop j s) → (byte_at s j ≡ hash → ⊥) → hashes most (chars (drop j s)) ≡ 0
  unfolding hashes
  hash_none most j w n =
      split_lt j (length s)
      (λ k. let c = here s j w k in
      ap (hashes most) c.at.step ∙ other most c.code (chars (drop (j + c.len) s)) (λ e. n (is_hash j c.code c.len c.read k e)))
      (λ k. rw (chars_end s j k))

  -- ---- the hashes that are counted

  none : (j : ℕ) → j ≤ length s → Hashes s j 0
  none j h = record { all = λ k l. absurd (omega arith); inside = omega arith }

  first : (j n : ℕ) → byte_at s j ≡ hash → Hashes s (j + 1) n → Hashes s j (suc n)
  first j n e r =
      record {
        all = λ k l. split_eq k 0 (λ z. let q : j + k ≡ j = omega arith in rw q e)
            (λ z. let q : j + 1 + (k - 1) ≡ j + k = omega arith in ap (byte_at s) (sym q) ∙ r.all (k - 1) (omega arith));
        inside = omega (arith, r.inside);
      }

  pub counted : (most j : ℕ) → WellFormed (drop j s) → j ≤ length s → Hashes s j (hashes most (chars (drop j s)))
  counted zero j w h = subst (Hashes s j) (sym (hash_zero (chars (drop j s)))) (none j h)
  counted (suc most) j w h =
      split_eq (byte_at s j) hash
      (λ e. let k = byte_within s j hash e (omega arith) in
      subst (Hashes s j) (sym (hash_more most j e))
      (first j (hashes most (chars (drop (j + 1) s))) e (counted most (j + 1) (skip_one s j hash w e (omega arith)).well (omega arith))))
      (λ n. subst (Hashes s j) (sym (hash_none (suc most) j w n)) (none j h))

  pub pass_hashes : (i b n : ℕ) → Passes s i b → Hashes s (i + b) n → Passes s i (b + n)
  pass_hashes i b zero p r = let q : b ≡ b + 0 = omega arith in subst (Passes s i) q p
  pass_hashes i b (suc n) p r =
      let o = pass_hashes i b n p (record { all = λ k h. r.all k (omega arith); inside = omega (arith, r.inside) }) in
      let j : i + b + n ≡ i + (b + n) = omega arith in
      let e : byte_at s (i + (b + n)) ≡ hash = ap (byte_at s) (sym j) ∙ r.all n (omega arith) in
      let q : b + n + 1 ≡ b + suc n = omega arith in
      subst (Passes s i) q (one_more_lem s i (b + n) hash o e (omega arith))
