-- Laws of the count of clusters, over the edition and the look-up.
--     no_clusters      the empty text has none
--     count_begun      there are as many as begin: one with the first character, and one with each that no rule joins to what stands left of it
--     count_within     no more than characters
--     first_break      the first place that is counted is the end of the first cluster (`first_size`), and there is one
--     each_break, no_other    every break is counted, and what is counted is a break
-- Assumes nothing.
use Prim.Native.Nat.{ℕ, zero, suc, ◌+◌, ◌<◌, ◌≤◌}
use native.Mathlib.Omega.{arith}
use Rattle.std.specs.Prelude.{◌≡◌, false, not, get_or, drop}
use Rattle.std.proofs.Math.Path.{refl, ap}
use Rattle.std.proofs.Common.{◌∙◌}
use mathlib.Core.List.{List, [], ◌∷◌}
use Rattle.std.proofs.Math.Bool.{Bool, true}
use Rattle.std.proofs.Math.ListN.{length}
use Rattle.std.proofs.Math.Seq.{drop-cons, drop-length}
use borrow.Author.Tests.{lt-ltb, le-ltb}
use Rattle.base.specs.Pick.{pick}
use Rattle.base.specs.PickLaws.{by_test, split_lt}
use Rattle.uax29.specs.Uax29.{joined}
use Rattle.cluster.specs.First.{before, break_after, first_size}
use Rattle.cluster.specs.FirstLaws.{first_is_shortest}
use Rattle.cluster_count.specs.Count.{breaks_from, breaks, cluster_count, begun_in}

-- one character more stands left of the place
one_before : (look : ℕ → ℕ) (left : List ℕ) (k : ℕ) (cs : List ℕ) → k < length cs
    → before look left (suc k) cs ≡ look (get_or cs k 0) ∷ before look left k cs
one_before look left k [] h = absurd (omega arith)
one_before look left zero (c ∷ cs) h = refl
one_before look left (suc k) (c ∷ cs) h = one_before look (look c ∷ left) k cs (omega arith)

module _ (look : ℕ → ℕ) (edition : ℕ) where
  pub no_clusters : cluster_count look edition [] ≡ 0
  unfolding breaks_from
  no_clusters = refl

  -- ---- as many as begin

  -- the length of a pick
  counted : (t : Bool) (k : ℕ) (l : List ℕ) → length (pick (not t) (k ∷ l) l) ≡ pick t 0 1 + length l
  counted true k l = omega arith
  counted false k l = omega arith

  module _ (cs : List ℕ) where
    count_from : (m k : ℕ) → k + m ≡ length cs
        → length (breaks_from look edition cs k (suc m)) ≡ suc (begun_in look edition (before look [] k cs) (drop k cs))
    unfolding breaks_from begun_in
    count_from zero k e =
        let l : k ≡ length cs = omega arith in
        rw (l, le-ltb (length cs) (length cs) (omega arith), drop-length cs)
    count_from (suc m) k e =
        let h : k < length cs = omega arith in
        let t : Bool = joined edition (before look [] k cs) (look (get_or cs k 0)) in
        let ih = count_from m (suc k) (omega arith) in
        rw (lt-ltb k (length cs) h, drop-cons cs k 0 h)
        (counted t k (breaks_from look edition cs (suc k) (suc m))
        ∙ ap (λ (n : ℕ). pick t 0 1 + n) ih
        ∙ rw (one_before look [] k cs h) (omega arith))

  pub count_begun : (c : ℕ) (cs : List ℕ) → cluster_count look edition (c ∷ cs) ≡ suc (begun_in look edition (look c ∷ []) cs)
  unfolding breaks_from begun_in
  count_begun c cs = from_here (c ∷ cs) (length cs) 1 (omega arith)
    where
      from_here : (l : List ℕ) (m k : ℕ) → k + m ≡ length l
          → length (breaks_from look edition l k (suc m)) ≡ suc (begun_in look edition (before look [] k l) (drop k l))
      from_here l zero k e =
          let d : k ≡ length l = omega arith in
          rw (d, le-ltb (length l) (length l) (omega arith), drop-length l)
      from_here l (suc m) k e =
          let h : k < length l = omega arith in
          let t : Bool = joined edition (before look [] k l) (look (get_or l k 0)) in
          let ih = from_here l m (suc k) (omega arith) in
          rw (lt-ltb k (length l) h, drop-cons l k 0 h)
          (counted t k (breaks_from look edition l (suc k) (suc m))
          ∙ ap (λ (n : ℕ). pick t 0 1 + n) ih
          ∙ rw (one_before look [] k l h) (omega arith))

  begun_within : (left cs : List ℕ) → begun_in look edition left cs ≤ length cs
  unfolding begun_in
  begun_within left [] = omega arith
  begun_within left (c ∷ cs) =
      by_test (λ (n : ℕ). n + begun_in look edition (look c ∷ left) cs ≤ suc (length cs)) (joined edition left (look c))
      (λ t. omega (arith, begun_within (look c ∷ left) cs)) (λ t. omega (arith, begun_within (look c ∷ left) cs))

  within_from : (cs : List ℕ) (n k : ℕ) → length (breaks_from look edition cs k n) ≤ n
  unfolding breaks_from
  within_from cs zero k = omega arith
  within_from cs (suc n) k =
      by_test (λ (l : List ℕ). length l ≤ suc n) (break_after look edition cs k)
      (λ t. omega (arith, within_from cs n (suc k))) (λ t. omega (arith, within_from cs n (suc k)))

  pub count_within : (cs : List ℕ) → cluster_count look edition cs ≤ length cs
  count_within cs = within_from cs (length cs) 1

  -- ---- the first one

  module _ (cs : List ℕ) where
    first_from : (n k f : ℕ) → k ≤ f → f < k + n → break_after look edition cs f ≡ true
        → ((j : ℕ) → k ≤ j → j < f → break_after look edition cs j ≡ false)
        → get_or (breaks_from look edition cs k n) 0 0 ≡ f
    unfolding breaks_from
    first_from zero k f h l t none = absurd (omega arith)
    first_from (suc n) k f h l t none =
        split_lt k f
        (λ d. rw (none k (omega arith) d) (first_from n (suc k) f (omega arith) (omega arith) t (λ j a b. none j (omega arith) b)))
        (λ d. let e : k ≡ f = omega arith in
        let u : break_after look edition cs k ≡ true = rw e t in
        rw u e)

  pub first_break : (c : ℕ) (cs : List ℕ) → get_or (breaks look edition (c ∷ cs)) 0 0 ≡ first_size look edition (c ∷ cs)
  first_break c cs =
      let w = first_is_shortest look edition c cs in
      first_from (c ∷ cs) (suc (length cs)) 1 (first_size look edition (c ∷ cs)) (omega (arith, w.some)) (omega (arith, w.within))
      w.break_after_lem (λ j a b. w.none_shorter j (omega arith) b)

  -- ---- exactly the breaks

  module _ (cs : List ℕ) where
    -- f is one of the list
    abbrev In : ℕ → List ℕ → Type 0
    In f l = (i : ℕ) × ((i < length l) × (get_or l i 0 ≡ f))

    in_behind : (t : Bool) (k f : ℕ) (l : List ℕ) → In f l → In f (pick t (k ∷ l) l)
    in_behind true k f l w = (suc w.0, (omega (arith, w.1.0), w.1.1))
    in_behind false k f l w = w

    break_from : (n k f : ℕ) → k ≤ f → f < k + n → break_after look edition cs f ≡ true → In f (breaks_from look edition cs k n)
    unfolding breaks_from
    break_from zero k f h l t = absurd (omega arith)
    break_from (suc n) k f h l t =
        split_lt k f
        (λ d. in_behind (break_after look edition cs k) k f (breaks_from look edition cs (suc k) n) (break_from n (suc k) f (omega arith) (omega arith) t))
        (λ d. let e : k ≡ f = omega arith in
        let u : break_after look edition cs k ≡ true = rw e t in
        rw u (0, (omega arith, e)))

    pub each_break : (f : ℕ) → 0 < f → f ≤ length cs → break_after look edition cs f ≡ true → In f (breaks look edition cs)
    each_break f h l t = break_from (length cs) 1 f (omega arith) (omega arith) t

    -- a break inside the text
    abbrev Break : ℕ → ℕ → ℕ → Type 0
    Break k n f = (k ≤ f) × ((f < k + n) × (break_after look edition cs f ≡ true))

    only_from : (n k i : ℕ) → i < length (breaks_from look edition cs k n) → Break k n (get_or (breaks_from look edition cs k n) i 0)
    unfolding breaks_from
    only_from zero k i h = absurd (omega arith)
    only_from (suc n) k i h = go (break_after look edition cs k) refl i h (λ j g. only_from n (suc k) j g)
      where
        rest : List ℕ
        rest = breaks_from look edition cs (suc k) n

        later : (f : ℕ) → Break (suc k) n f → Break k (suc n) f
        later f w = (omega (arith, w.0), (omega (arith, w.1.0), w.1.1))

        go : (t : Bool) → break_after look edition cs k ≡ t → (i : ℕ) → i < length (pick t (k ∷ rest) rest)
            → ((j : ℕ) → j < length rest → Break (suc k) n (get_or rest j 0)) → Break k (suc n) (get_or (pick t (k ∷ rest) rest) i 0)
        go true e zero h ih = (omega arith, (omega arith, e))
        go true e (suc i) h ih = later (get_or rest i 0) (ih i (omega arith))
        go false e i h ih = later (get_or rest i 0) (ih i h)

    pub no_other : (i : ℕ) → i < cluster_count look edition cs → Break 1 (length cs) (get_or (breaks look edition cs) i 0)
    no_other i h = only_from (length cs) 1 i h
