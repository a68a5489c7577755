-- What the loop of `count_clusters` keeps, and one step of it at a place of the bytes.
--     Counting          some characters have been passed, and the count and what begins from here on are the answer
--     first, one_more_lem   it holds after the first character, and after one more
--     at_end, nothing   what it gives at the end, and where there are no bytes
-- Assumes nothing.
use Prim.Native.Nat.{ℕ, suc, ◌+◌, ◌≤◌}
use native.Mathlib.Omega.{arith}
use mathlib.Core.Path.{◌≡◌, sym, ap, ◌∙◌}
use mathlib.Core.List.{List, [], ◌∷◌}
use mathlib.Core.Bool.{Bool}
use lib.ListN.{length, drop}
use Rattle.base.specs.Pick.{pick}
use Rattle.base.specs.PickLaws.{by_test}
use Rattle.utf8.specs.Encode.{WellFormed}
use Rattle.utf8.specs.Chars.{chars}
use Rattle.utf8.specs.CharsLaws.{chars_end}
use Rattle.property.specs.Table.{properties_at}
use Rattle.uax29.specs.Uax29.{joined}
use Rattle.uax29.specs.State.{left_of, passed, joined_by}
use Rattle.uax29.specs.StateLaws.{step, by_state}
use Rattle.uax29.specs.declared.Left.{Left}
use Rattle.text.specs.Chars.{CharIs}
use Rattle.text.specs.declared.Char.{Char}
use Rattle.cluster_count.specs.Count.{begun_in, cluster_count}
use Rattle.cluster_count.specs.CountLaws.{no_clusters, count_begun}

module _ (s table : List ℕ) (edition : ℕ) where
  abbrev look : ℕ → ℕ
  look = properties_at table

  -- at the place i, with the state left
  pub record Counting (left : Left) (count i : ℕ) : Type 0 where
    pub past : List ℕ
    pub state : left ≡ left_of past
    pub well : WellFormed (drop i s)
    pub few : count ≤ i
    pub answer : count + begun_in look edition past (chars (drop i s)) ≡ cluster_count look edition (chars s)

  pub first : (c : Char) → CharIs s table 0 c → Counting (passed (left_of []) c.properties) 1 c.len
  first c a =
      let p = c.properties in
      let z : 0 + c.len ≡ c.len = omega arith in
      let e : chars s ≡ c.code ∷ chars (drop c.len s) = rw z at a.at.step in
      let l : look c.code ∷ [] ≡ p ∷ [] = ap (λ (x : ℕ). x ∷ []) (sym a.properties) in
      let b : cluster_count look edition (chars s) ≡ suc (begun_in look edition (p ∷ []) (chars (drop c.len s))) =
      ap (cluster_count look edition) e ∙ count_begun look edition c.code (chars (drop c.len s))
      ∙ ap (λ (x : List ℕ). suc (begun_in look edition x (chars (drop c.len s)))) l in
      record {
        past = p ∷ [];
        state = step [] p;
        well = rw z at a.well;
        few = omega (arith, a.at.some);
        answer = omega arith;
      }

  pub nothing : length s ≤ 0 → 0 ≡ cluster_count look edition (chars s)
  nothing h = sym (ap (cluster_count look edition) (chars_end s 0 h) ∙ no_clusters look edition)

  module _ (left : Left) (count i : ℕ) (v : Counting left count i) where
    pub at_end : length s ≤ i → count ≡ cluster_count look edition (chars s)
    unfolding begun_in
    at_end h = let a = rw (chars_end s i h) at v.answer in omega arith

    module _ (c : Char) (a : CharIs s table i c) (b : ℕ) (t : b ≡ pick (joined_by edition left c.properties) 0 1) where
      one : b ≤ 1
      one = rw t (by_test (λ (k : ℕ). k ≤ 1) (joined_by edition left c.properties) (λ _. omega arith) (λ _. omega arith))

      by_past : b ≡ pick (joined edition v.past c.properties) 0 1
      by_past =
          t
          ∙ ap (λ (x : Bool). pick {A = ℕ} x 0 1)
          (ap (λ (l : Left). joined_by edition l c.properties) v.state ∙ by_state edition v.past c.properties)

      -- the count stays a number of the machine
      pub counts : count + b ≤ i + c.len
      counts = omega (arith, v.few, one, a.at.some)

      begun : begun_in look edition v.past (chars (drop i s))
          ≡ b + begun_in look edition (c.properties ∷ v.past) (chars (drop (i + c.len) s))
      unfolding begun_in
      begun =
          rw (a.at.step, ← a.properties)
          (ap (λ (k : ℕ). k + begun_in look edition (c.properties ∷ v.past) (chars (drop (i + c.len) s))) (sym by_past))

      pub one_more_lem : Counting (passed left c.properties) (count + b) (i + c.len)
      one_more_lem =
          record {
            past = c.properties ∷ v.past;
            state = ap (λ (l : Left). passed l c.properties) v.state ∙ step v.past c.properties;
            well = a.well;
            few = counts;
            answer = omega (arith, v.answer, begun);
          }
