-- What callers use of an edit and of a line's start.
--     slices_same                 two slices are equal exactly where the run is the same
--     lengths_of                  what the test of the lengths says
--     edit_of_lem, fits_of            the test is exactly that the edit leads from s to t
--     edit_inside                 an edit's place is one of the new source
--     same_start                  both sources begin with the same bytes, up to any place at or before the edit's
--     line_within, line_newline   a line starts at or before the place, and behind a "\n" if not at 0
--     line_last                   there is no "\n" between
--     line_same                   it starts in both sources at the same place
-- Assumes nothing.
use Prim.Native.Nat.{ℕ, zero, suc, ◌+◌, ◌-◌, ◌≤◌, ◌<◌}
use Rattle.std.proofs.Common.{arith, zero-add, subst, ◌∙◌, take-take}
use Rattle.std.specs.Prelude.{◌≡◌, refl, Bool, ◌&&◌, eqb, leb, take, drop}
use Rattle.std.proofs.Math.Path.{sym, ap}
use Rattle.std.proofs.Math.Bool.{true, false, and-eq-true_iff}
use mathlib.Core.List.{List}
use Rattle.std.proofs.Math.ListN.{length, get_or, length-drop}
use Rattle.std.proofs.Math.Seq.{length-take-le, get_or-take, get_or-drop, ext_get_or}
use borrow.Author.Tests.{leb-true, eqb-true, le-leb, eq-eqb}
use Rattle.base.specs.Pick.{pick}
use Rattle.base.specs.PickLaws.{by_test, by_eq, split_lt}
use Rattle.text.specs.Tests.{lf}
use Rattle.edit.specs.Edit.{Edits, lengths_fit, same_run, edit_fits, start_of_line}
use Rattle.edit.specs.declared.Edit.{Edit}

-- ---- runs of bytes

module _ (s : List ℕ) (i : ℕ) (t : List ℕ) (j : ℕ) where
  run_same : (n : ℕ) → same_run s i t j n ≡ true → (k : ℕ) → k < n → get_or s (i + k) 0 ≡ get_or t (j + k) 0
  run_same zero = λ e k h. absurd (omega arith)
  run_same (suc n) =
      by_eq (λ (b : Bool). b ≡ true → (k : ℕ) → k < suc n → get_or s (i + k) 0 ≡ get_or t (j + k) 0) (get_or s (i + n) 0) (get_or t (j + n) 0)
      (λ same e k h. split_lt k n (run_same n e k) (λ le. let m : n ≡ k = omega arith in subst (λ (x : ℕ). get_or s (i + x) 0 ≡ get_or t (j + x) 0) m same))
      (λ _ e. let z : ◌≡◌ {A = ℕ} 0 1 = cc in absurd (omega arith))

  same_run_lem : (n : ℕ) → ((k : ℕ) → k < n → get_or s (i + k) 0 ≡ get_or t (j + k) 0) → same_run s i t j n ≡ true
  same_run_lem zero f = refl
  same_run_lem (suc n) f = rw (eq-eqb (get_or s (i + n) 0) (get_or t (j + n) 0) (f n (omega arith))) (same_run_lem n (λ k h. f k (omega arith)))

-- two slices are the same
module _ (s : List ℕ) (i : ℕ) (t : List ℕ) (j n : ℕ) (h : i + n ≤ length s) (k : j + n ≤ length t) where
  run_of : take n (drop i s) ≡ take n (drop j t) → same_run s i t j n ≡ true
  run_of e =
      same_run_lem s i t j n
      (λ m lt. sym (get_or-take n (drop i s) m 0 lt ∙ get_or-drop i s m 0)
      ∙ ap (λ (l : List ℕ). get_or l m 0) e
      ∙ get_or-take n (drop j t) m 0 lt
      ∙ get_or-drop j t m 0)

  of_run : same_run s i t j n ≡ true → take n (drop i s) ≡ take n (drop j t)
  of_run e =
      let a : length (take n (drop i s)) ≡ n = length-take-le n (drop i s) (omega (arith, length-drop i s)) in
      let b : length (take n (drop j t)) ≡ n = length-take-le n (drop j t) (omega (arith, length-drop j t)) in
      ext_get_or 0 (take n (drop i s)) (take n (drop j t)) (a ∙ sym b)
      (λ m lt. let l : m < n = omega (arith, a) in
      get_or-take n (drop i s) m 0 l
      ∙ get_or-drop i s m 0
      ∙ run_same s i t j n e m l
      ∙ sym (get_or-take n (drop j t) m 0 l ∙ get_or-drop j t m 0))

  pub slices_same : (r : Bool) → (r ≡ true → take n (drop i s) ≡ take n (drop j t)) → (take n (drop i s) ≡ take n (drop j t) → r ≡ true) → r ≡ same_run s i t j n
  slices_same true f g = sym (run_of (f refl))
  slices_same false f g = by_value (same_run s i t j n) refl
    where
      by_value : (x : Bool) → same_run s i t j n ≡ x → false ≡ same_run s i t j n
      by_value false e = sym e
      by_value true e = let no : false ≡ true = g (of_run e) in no ∙ sym e

-- ---- the edit

pub lengths_of : (old : ℕ) (e : Edit) (new : ℕ) → lengths_fit old e new ≡ true
    → (e.place + e.removed ≤ old) × (new + e.removed ≡ old + e.put_in)
lengths_of old e new f =
    let both = (and-eq-true_iff (leb (e.place + e.removed) old) (eqb (new + e.removed) (old + e.put_in))).0 f in
    (leb-true (e.place + e.removed) old both.0, eqb-true (new + e.removed) (old + e.put_in) both.1)

module _ (s : List ℕ) (m : Edit) (t : List ℕ) where
  abbrev p : ℕ
  p = m.place

  abbrev r : ℕ
  r = m.removed

  abbrev q : ℕ
  q = m.put_in

  pub edit_of_lem : edit_fits s m t ≡ true → Edits s m t
  unfolding edit_fits
  edit_of_lem e =
      let n : ℕ = length s - (p + r) in
      let both = (and-eq-true_iff (lengths_fit (length s) m (length t)) (same_run s 0 t 0 p && same_run s (p + r) t (p + q) n)).0 e in
      let long = lengths_of (length s) m (length t) both.0 in
      let same = (and-eq-true_iff (same_run s 0 t 0 p) (same_run s (p + r) t (p + q) n)).0 both.1 in
      record {
        inside = long.0;
        long = long.1;
        before = ext_get_or 0 (take p s) (take p t) (length-take-le p s (omega arith) ∙ sym (length-take-le p t (omega arith)))
            (λ k h. let lt : k < p = omega (arith, length-take-le p s (omega arith)) in
            get_or-take p s k 0 lt
            ∙ ap (λ (x : ℕ). get_or s x 0) (sym (zero-add k))
            ∙ run_same s 0 t 0 p same.0 k lt
            ∙ ap (λ (x : ℕ). get_or t x 0) (zero-add k)
            ∙ sym (get_or-take p t k 0 lt));
        behind = ext_get_or 0 (drop (p + r) s) (drop (p + q) t) (omega (arith, length-drop (p + r) s, length-drop (p + q) t))
            (λ k h. let lt : k < n = omega (arith, length-drop (p + r) s) in
            get_or-drop (p + r) s k 0 ∙ run_same s (p + r) t (p + q) n same.1 k lt ∙ sym (get_or-drop (p + q) t k 0));
      }

  pub fits_of : Edits s m t → edit_fits s m t ≡ true
  unfolding edit_fits
  fits_of e =
      let n : ℕ = length s - (p + r) in
      let first : same_run s 0 t 0 p ≡ true =
      same_run_lem s 0 t 0 p
      (λ k h. ap (λ (x : ℕ). get_or s x 0) (zero-add k)
      ∙ sym (get_or-take p s k 0 h)
      ∙ ap (λ (l : List ℕ). get_or l k 0) e.before
      ∙ get_or-take p t k 0 h
      ∙ ap (λ (x : ℕ). get_or t x 0) (sym (zero-add k))) in
      let second : same_run s (p + r) t (p + q) n ≡ true =
      same_run_lem s (p + r) t (p + q) n
      (λ k h. sym (get_or-drop (p + r) s k 0) ∙ ap (λ (l : List ℕ). get_or l k 0) e.behind ∙ get_or-drop (p + q) t k 0) in
      rw (le-leb (p + r) (length s) e.inside, eq-eqb (length t + r) (length s + q) e.long, first, second)

  -- it stands in the new source too
  pub edit_inside : Edits s m t → p ≤ length t
  edit_inside e = omega (arith, e.inside, e.long)

  -- the bytes up to a place at or before the edit's
  pub same_start : Edits s m t → (n : ℕ) → n ≤ p → take n s ≡ take n t
  same_start e n h = sym (take-take n p s h) ∙ ap (take n) e.before ∙ take-take n p t h

-- ---- the line

pub line_within : (s : List ℕ) (p : ℕ) → start_of_line s p ≤ p
line_within s zero = omega arith
line_within s (suc n) = by_test (λ (m : ℕ). m ≤ suc n) (eqb (get_or s n 0) lf) (λ _. omega arith) (λ _. omega (arith, line_within s n))

pub line_newline : (s : List ℕ) (p n : ℕ) → start_of_line s p ≡ suc n → get_or s n 0 ≡ lf
line_newline s zero n = λ e. absurd (omega arith)
line_newline s (suc k) n =
    by_eq (λ (m : ℕ). m ≡ suc n → get_or s n 0 ≡ lf) (get_or s k 0) lf
    (λ f e. let m : k ≡ n = omega arith in subst (λ (x : ℕ). get_or s x 0 ≡ lf) m f) (λ _ e. line_newline s k n e)

pub line_last : (s : List ℕ) (p i : ℕ) → start_of_line s p ≤ i → i < p → get_or s i 0 ≡ lf → ⊥
line_last s zero i = λ h l e. absurd (omega arith)
line_last s (suc k) i =
    by_eq (λ (m : ℕ). m ≤ i → i < suc k → get_or s i 0 ≡ lf → ⊥) (get_or s k 0) lf (λ f h l e. absurd (omega arith))
    (λ f h l e. split_lt i k (λ lt. line_last s k i h lt e) (λ le. let m : i ≡ k = omega arith in f (subst (λ (x : ℕ). get_or s x 0 ≡ lf) m e)))

pub line_same : (s t : List ℕ) (p : ℕ) → take p s ≡ take p t → start_of_line s p ≡ start_of_line t p
line_same s t zero e = refl
line_same s t (suc k) e =
    let b : get_or s k 0 ≡ get_or t k 0 =
    sym (get_or-take (suc k) s k 0 (omega arith)) ∙ ap (λ (l : List ℕ). get_or l k 0) e ∙ get_or-take (suc k) t k 0 (omega arith) in
    let rest : take k s ≡ take k t =
    sym (take-take k (suc k) s (omega arith)) ∙ ap (take k) e ∙ take-take k (suc k) t (omega arith) in
    ap (λ (x : ℕ). pick (eqb x lf) (suc k) (start_of_line s k)) b
    ∙ ap (λ (x : ℕ). pick (eqb (get_or t k 0) lf) (suc k) x) (line_same s t k rest)
