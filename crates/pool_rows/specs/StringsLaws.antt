-- Laws of the strings of a pool, and of the index of one of them.
--     same_eq, eq_same            equal strings, and the test for them
--     index_first                 of equal strings the first counts
--     index_most, index_there     an index is at most how many strings there are, and below that its string stands there
--     index_at, index_none        what makes a number the index, or how many there are
--     kept_with, shown_with_lem       a string added at the end changes what no index means, and stands at its index
--     index_with                  and that is its index then
--     strings_long, strings_at, strings_more, strings_same    the strings of a pool, one by one
-- Assumes nothing.
use Prim.Native.Nat.{ℕ, zero, suc, ◌+◌, ◌<◌, ◌≤◌}
use native.Mathlib.Omega.{arith}
use Rattle.std.specs.Prelude.{◌≡◌, Bool, true, length}
use Rattle.std.proofs.Math.Path.{refl, ap}
use Rattle.std.proofs.Common.{◌∙◌, sym, length-append, eq-eqb}
use mathlib.Core.List.{List, [], ◌∷◌, ◌++◌}
use Rattle.std.proofs.Math.ListN.{get_or, get_or-append}
use Rattle.std.proofs.Math.Seq.{get_or-append_seam}
use Rattle.base.specs.PickLaws.{by_test, by_lt, by_eq, split_lt}
use Rattle.pool_rows.specs.Rows.{string_at, strings_from, same, index_of, with_string}

-- ---- equal strings

pub same_eq : (a b : List ℕ) → same a b ≡ true → a ≡ b
unfolding same
same_eq [] [] e = refl
same_eq [] (y ∷ ys) e = let z : ◌≡◌ {A = ℕ} 0 1 = cc in absurd (omega arith)
same_eq (x ∷ xs) [] e = let z : ◌≡◌ {A = ℕ} 0 1 = cc in absurd (omega arith)
same_eq (x ∷ xs) (y ∷ ys) e =
    by_eq (λ (t : Bool). t ≡ true → x ∷ xs ≡ y ∷ ys) x y
    (λ h f. let g = same_eq xs ys f in cc)
    (λ h f. let z : ◌≡◌ {A = ℕ} 0 1 = cc in absurd (omega arith)) e

pub eq_same : (a : List ℕ) → same a a ≡ true
unfolding same
eq_same [] = refl
eq_same (x ∷ xs) = rw (eq-eqb x x refl) (eq_same xs)

-- ---- the index of a string among some

module _ (string : List ℕ) where
  -- of two equal strings the first counts
  pub index_first : (ss : List (List ℕ)) (k : ℕ) → k < length ss → get_or ss k [] ≡ string → index_of string ss ≤ k
  unfolding index_of
  index_first [] k h e = absurd (omega arith)
  index_first (s ∷ ss) zero h e = rw (e, eq_same string) (omega arith)
  index_first (s ∷ ss) (suc k) h e =
      by_test (λ (i : ℕ). i ≤ suc k) (same s string) (λ f. omega arith) (λ f. omega (arith, index_first ss k (omega arith) e))

  pub index_most : (ss : List (List ℕ)) → index_of string ss ≤ length ss
  unfolding index_of
  index_most [] = omega arith
  index_most (s ∷ ss) = by_test (λ (i : ℕ). i ≤ suc (length ss)) (same s string) (λ e. omega arith) (λ e. omega (arith, index_most ss))

  pub index_there : (ss : List (List ℕ)) → index_of string ss < length ss → get_or ss (index_of string ss) [] ≡ string
  unfolding index_of
  index_there [] h = absurd (omega arith)
  index_there (s ∷ ss) h =
      by_test (λ (i : ℕ). i < suc (length ss) → get_or (s ∷ ss) i [] ≡ string) (same s string)
      (λ e l. same_eq s string e)
      (λ e l. index_there ss (omega arith)) h

  -- what makes a number the index, or how many there are
  pub index_at : (ss : List (List ℕ)) (k : ℕ) → k < length ss → get_or ss k [] ≡ string → ((j : ℕ) → j < k → get_or ss j [] ≡ string → ⊥)
      → index_of string ss ≡ k
  index_at ss k h e none_before =
      let most = index_first ss k h e in
      split_lt (index_of string ss) k (λ l. absurd (none_before (index_of string ss) l (index_there ss (omega arith)))) (λ l. omega arith)

  pub index_none : (ss : List (List ℕ)) → ((k : ℕ) → k < length ss → get_or ss k [] ≡ string → ⊥) → index_of string ss ≡ length ss
  index_none ss absent =
      split_lt (index_of string ss) (length ss)
      (λ l. absurd (absent (index_of string ss) l (index_there ss l)))
      (λ l. omega (arith, index_most ss))

  module _ (ss : List (List ℕ)) where
    pub kept_with : (k : ℕ) → k < length ss → get_or (with_string string ss) k [] ≡ get_or ss k []
    kept_with k h =
        by_lt (λ (l : List (List ℕ)). get_or l k [] ≡ get_or ss k []) (index_of string ss) (length ss)
        (λ i. refl)
        (λ i. get_or-append ss (string ∷ []) [] k h)

    pub shown_with_lem : get_or (with_string string ss) (index_of string ss) [] ≡ string
    shown_with_lem =
        by_lt (λ (l : List (List ℕ)). get_or l (index_of string ss) [] ≡ string) (index_of string ss) (length ss)
        (index_there ss)
        (λ i.
        let e : index_of string ss ≡ length ss = omega (arith, index_most ss) in
        rw e (get_or-append_seam ss string [] []))

    -- a string that was added has the index that it had, or was to have
    with_more_lem : index_of string ss < length (with_string string ss)
    with_more_lem =
        by_lt (λ (l : List (List ℕ)). index_of string ss < length l) (index_of string ss) (length ss) (λ h. h)
        (λ h. omega (arith, index_most ss, length-append ss (string ∷ [])))

    pub index_with : (index_of string (with_string string ss) ≡ index_of string ss) × (index_of string ss < length (with_string string ss))
    index_with = (
      index_at (with_string string ss) (index_of string ss) with_more_lem shown_with_lem
          (λ j h e. omega (arith, index_first ss j (omega (arith, index_most ss)) (sym (kept_with j (omega (arith, index_most ss))) ∙ e))),
      with_more_lem,
    )

-- ---- the strings of a pool

module _ (bytes entries : List ℕ) where
  pub strings_long : (k n : ℕ) → length (strings_from bytes entries k n) ≡ n
  unfolding strings_from
  strings_long k zero = refl
  strings_long k (suc n) = ap suc (strings_long (suc k) n)

  pub strings_at : (k n j : ℕ) → j < n → get_or (strings_from bytes entries k n) j [] ≡ string_at bytes entries (k + j)
  unfolding strings_from
  strings_at k zero j h = absurd (omega arith)
  strings_at k (suc n) zero h = let e : k + 0 ≡ k = omega arith in rw e
  strings_at k (suc n) (suc j) h =
      let e : suc k + j ≡ k + suc j = omega arith in
      strings_at (suc k) n j (omega arith) ∙ ap (string_at bytes entries) e

  pub strings_more : (k n j : ℕ) → j ≡ k + n
      → strings_from bytes entries k (suc n) ≡ strings_from bytes entries k n ++ (string_at bytes entries j ∷ [])
  unfolding strings_from
  strings_more k zero j e = let f : j ≡ k = omega arith in rw f
  strings_more k (suc n) j e = ap (λ (l : List (List ℕ)). string_at bytes entries k ∷ l) (strings_more (suc k) n j (omega arith))

pub strings_same : (bytes entries bytes' entries' : List ℕ) (k n : ℕ)
    → ((j : ℕ) → j < k + n → string_at bytes' entries' j ≡ string_at bytes entries j)
    → strings_from bytes' entries' k n ≡ strings_from bytes entries k n
unfolding strings_from
strings_same bytes entries bytes' entries' k zero h = refl
strings_same bytes entries bytes' entries' k (suc n) h =
    let e = h k (omega arith) in
    let f = strings_same bytes entries bytes' entries' (suc k) n (λ j l. h j (omega arith)) in
    cc
