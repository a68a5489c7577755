-- What `==` says of two rows, and what the loops over a pool's rows keep, over lists and numbers: for each loop how it starts, goes on and ends.
--     told_same                                         `is_same`: `==` is `same`
--     unlike, differs, goes_on                          `is_same`: what is left from i on is the same exactly where the whole is
--     cut_out                                           the part of a row that `is_at` lends
--     Searching: seek, found_here, not_here, none_left  `find_string`: the index among what is left, counted from i, is the index
--     Running: run, broken, one_run, all_run            `runs_to`: the entries from i on run to the end exactly where all do
-- Assumes nothing.
use Prim.Native.Nat.{ℕ, suc, ◌+◌, ◌-◌, ◌<◌, ◌≤◌}
use native.Mathlib.Omega.{arith}
use native.Mathlib.Numerals.{add-one}
use mathlib.Core.Path.{◌≡◌, refl, ap, ◌∙◌}
use mathlib.Core.Bool.{Bool, true, false, ◌&&◌}
use mathlib.Core.List.{List, [], ◌∷◌}
use lib.Dec.{eqb}
use lib.ListN.{length, get_or, take, drop}
use lib.Pointwise.{pointwise}
use lib.Seq.{drop-cons}
use borrow.Author.Tests.{eq-eqb, ne_eqb}
use Rattle.base.specs.Pick.{pick}
use Rattle.base.specs.PickLaws.{by_test}
use Rattle.pool_rows.specs.Rows.{start_of, length_of, string_at, strings_from, strings_of, same, index_of, runs_to}

-- ---- two strings, byte by byte

pub told_same : (a b : List ℕ) → pointwise eqb a b ≡ same a b
unfolding same
told_same [] [] = refl
told_same [] (y ∷ ys) = refl
told_same (x ∷ xs) [] = refl
told_same (x ∷ xs) (y ∷ ys) = told_head (eqb x y) _ _ (told_same xs ys)
  where
    told_head : (t p q : Bool) → p ≡ q → (t && p) ≡ pick t q false
    told_head true p q e = e
    told_head false p q e = refl

pub unlike : (a b : List ℕ) → (length a ≡ length b → ⊥) → same a b ≡ false
unfolding same
unlike [] [] h = absurd (h refl)
unlike [] (y ∷ ys) h = refl
unlike (x ∷ xs) [] h = refl
unlike (x ∷ xs) (y ∷ ys) h = by_test (λ (t : Bool). t ≡ false) (eqb x y) (λ e. unlike xs ys (λ f. h (ap suc f))) (λ e. refl)

module _ (a b : List ℕ) (i : ℕ) (ha : i < length a) (hb : i < length b) where
  one_byte_lem : same (drop i a) (drop i b) ≡ pick (eqb (get_or a i 0) (get_or b i 0)) (same (drop (suc i) a) (drop (suc i) b)) false
  unfolding same
  one_byte_lem = rw (drop-cons a i 0 ha, drop-cons b i 0 hb)

  pub differs : (get_or a i 0 ≡ get_or b i 0 → ⊥) → same (drop i a) (drop i b) ≡ false
  differs h = one_byte_lem ∙ simp (ne_eqb _ _ h)

  pub goes_on : get_or a i 0 ≡ get_or b i 0 → same (drop i a) (drop i b) ≡ same (drop (i + 1) a) (drop (i + 1) b)
  goes_on e = one_byte_lem ∙ simp (eq-eqb _ _ e, add-one)

pub cut_out : (bytes string : List ℕ) (start long end : ℕ) → end ≡ start + long
    → same (take (end - start) (drop start bytes)) string ≡ same (take long (drop start bytes)) string
cut_out bytes string start long end e = let q : end - start ≡ long = omega arith in rw q

-- ---- the search

module _ (string bytes entries : List ℕ) (n : ℕ) where
  -- the first i entries have other strings
  abbrev pub Searching : ℕ → Type 0
  Searching i = i + index_of string (strings_from bytes entries i (n - i)) ≡ index_of string (strings_of bytes entries n)

  pub seek : Searching 0
  seek = let z : n - 0 ≡ n = omega arith in rw z (omega arith)

  module _ (i : ℕ) (h : Searching i) where
    pub found_here : i < n → same (string_at bytes entries i) string ≡ true → i ≡ index_of string (strings_of bytes entries n)
    unfolding index_of strings_from
    found_here l t = let s : n - i ≡ suc (n - (i + 1)) = omega arith in let g = rw (s, t) at h in omega arith

    pub not_here : i < n → same (string_at bytes entries i) string ≡ false → Searching (i + 1)
    unfolding index_of strings_from
    not_here l t = let s : n - i ≡ suc (n - (i + 1)) = omega arith in let g = rw (← add-one i) at (rw (s, t) at h) in omega arith

    pub none_left : n ≤ i → i ≡ index_of string (strings_of bytes entries n)
    unfolding index_of strings_from
    none_left l = let s : n - i ≡ 0 = omega arith in let g = rw s at h in omega arith

-- ---- the check of the entries

module _ (entries : List ℕ) (n end : ℕ) where
  -- the first i entries run end to end from byte 0 to the byte `next`
  abbrev pub Running : ℕ → ℕ → Type 0
  Running next i = runs_to entries i (n - i) next end ≡ runs_to entries 0 n 0 end

  pub run : Running 0 0
  run = let z : n - 0 ≡ n = omega arith in rw z

  module _ (next i : ℕ) (h : Running next i) where
    pub broken : i < n → (start_of entries i ≡ next → ⊥) → false ≡ runs_to entries 0 n 0 end
    unfolding runs_to
    broken l d = let s : n - i ≡ suc (n - (i + 1)) = omega arith in rw (s, ne_eqb (start_of entries i) next d) at h

    pub one_run : i < n → start_of entries i ≡ next → Running (start_of entries i + length_of entries i) (i + 1)
    unfolding runs_to
    one_run l e =
        let s : n - i ≡ suc (n - (i + 1)) = omega arith in
        rw (e, add-one i) (rw (s, eq-eqb (start_of entries i) next e, add-one i) at h)

    pub all_run : n ≤ i → eqb next end ≡ runs_to entries 0 n 0 end
    unfolding runs_to
    all_run l = let s : n - i ≡ 0 = omega arith in rw s at h
