-- What `first_apart` names, for the promises.
--     apart_is     the index up to which every record is the list's, and which itself is not, or is past the records or the count
--     apart_all    where it is past the records, each of them is the list's
-- and what is made of it:
--     same_is, is_same    a yes, exactly where records, count and status are right
--     differs_is          no, with that index, wherever they are not
-- Assumes nothing.
use Prim.Native.Nat.{ℕ, zero, suc, ◌+◌, ◌≤◌, ◌<◌}
use Rattle.std.proofs.Common.{add-zero, ◌∙◌, eq-eqb, eqb-true}
use native.Mathlib.Omega.{arith}
use Rattle.std.specs.Prelude.{◌≡◌, Bool, ◌&&◌, Ok, eqb, ltb, get_or}
use Rattle.std.proofs.Math.Path.{refl, sym, ap}
use Rattle.std.proofs.Math.Bool.{true, false, and-eq-true_iff}
use mathlib.Core.List.{List, [], ◌∷◌}
use Rattle.std.proofs.Math.ListN.{length}
use Rattle.base.specs.Pick.{pick}
use Rattle.held.specs.Held.{is_row}
use Rattle.rows.specs.declared.Row.{Row}
use Rattle.reading.specs.Reading.{Stop, ended, stuck, deep}
use Rattle.reading.specs.Status.{end_number, stuck_number}
use Rattle.foreign.specs.Check.{Checked, first_apart, is_right, by_stop}
use Rattle.foreign.specs.declared.Comparison.TheVariants.{Same, Differs}

module _ (list : List ℕ) (count : ℕ) where
  -- record k of the list counts, and is this one
  abbrev pub has : ℕ → Row → Bool
  has k r = ltb k count && is_row list k r

  pub apart_is : (k : ℕ) (rows : List Row) (i : ℕ) → i ≤ length rows → ((j : ℕ) (d : Row) → j < i → has (k + j) (get_or rows j d) ≡ true)
      → (i < length rows → (d : Row) → has (k + i) (get_or rows i d) ≡ false) → first_apart list count k rows ≡ k + i
  unfolding first_apart
  apart_is k [] zero h before stops = sym (add-zero k)
  apart_is k [] (suc i) h before stops = absurd (omega arith)
  apart_is k (r ∷ rows) zero h before stops =
      let e : has k r ≡ false = ap (λ (n : ℕ). has n r) (sym (add-zero k)) ∙ stops (omega arith) r in rw e (sym (add-zero k))
  apart_is k (r ∷ rows) (suc i) h before stops =
      let e : has k r ≡ true = ap (λ (n : ℕ). has n r) (sym (add-zero k)) ∙ before 0 r (omega arith) in
      let n : k + 1 + i ≡ k + suc i = omega arith in
      rw e
      (apart_is (k + 1) rows i (omega arith) (λ j d lt. ap (λ (m : ℕ). has m (get_or rows j d)) (next j) ∙ before (suc j) d (omega arith))
      (λ lt d. ap (λ (m : ℕ). has m (get_or rows i d)) n ∙ stops (omega arith) d)
      ∙ n)
    where
      next : (j : ℕ) → k + 1 + j ≡ k + suc j
      next j = omega arith

  pub apart_all : (k : ℕ) (rows : List Row) → first_apart list count k rows ≡ k + length rows → (j : ℕ) (d : Row) → j < length rows
      → is_row list (k + j) (get_or rows j d) ≡ true
  unfolding first_apart
  apart_all k [] e j d h = absurd (omega arith)
  apart_all k (r ∷ rows) e j d h = by_first (apart_all (k + 1) rows) (has k r) refl e j h
    where
      by_first : (first_apart list count (k + 1) rows ≡ k + 1 + length rows → (j : ℕ) (d : Row) → j < length rows
          → is_row list (k + 1 + j) (get_or rows j d) ≡ true)
          → (t : Bool) → has k r ≡ t → pick t (first_apart list count (k + 1) rows) k ≡ k + suc (length rows) → (j : ℕ) → j < suc (length rows)
          → is_row list (k + j) (get_or (r ∷ rows) j d) ≡ true
      by_first all false f g j h = absurd (omega arith)
      by_first all true f g zero h =
          ap (λ (m : ℕ). is_row list m r) (add-zero k) ∙ ((and-eq-true_iff (ltb k count) (is_row list k r)).0 f).1
      by_first all true f g (suc j) h =
          let n : k + suc j ≡ k + 1 + j = omega arith in
          ap (λ (m : ℕ). is_row list m (get_or rows j d)) n ∙ all (omega arith) j d (omega arith)

-- ---- the answer

-- the status of a reading that stops so has this number
abbrev pub StatusIs : Stop → ℕ → Type 0
StatusIs ended status = status ≡ end_number
StatusIs stuck status = status ≡ stuck_number
StatusIs deep status = ⊥

module _ (count status n apart b : ℕ) where
  pub same_is : (why : Stop) → apart ≡ n → count ≡ n → StatusIs why status → by_stop count status n apart b why ≡ Ok Same
  same_is ended e f g = rw (eq-eqb apart n e, eq-eqb count n f, eq-eqb status end_number g)
  same_is stuck e f g = rw (eq-eqb apart n e, eq-eqb count n f, eq-eqb status stuck_number g)
  same_is deep e f g = absurd g

  -- by the test
  module _ (right : ℕ) where
    yes_right : (t : Bool) → is_right count status n apart right ≡ t → ◌≡◌ {A = Checked} (Ok (pick t Same (Differs apart))) (Ok Same) → (apart ≡ n) × (count ≡ n) × (status ≡ right)
    yes_right true e f =
        let one = (and-eq-true_iff (eqb apart n) (eqb count n && eqb status right)).0 e in
        let two = (and-eq-true_iff (eqb count n) (eqb status right)).0 one.1 in
        (eqb-true apart n one.0, eqb-true count n two.0, eqb-true status right two.1)
    yes_right false e f = let z : ◌≡◌ {A = ℕ} 0 1 = cc in absurd (omega arith)

    no_right : (t : Bool) → is_right count status n apart right ≡ t → (apart ≡ n → count ≡ n → status ≡ right → ⊥)
        → ◌≡◌ {A = Checked} (Ok (pick t Same (Differs apart))) (Ok (Differs apart))
    no_right true e f = let all = yes_right true e refl in absurd (f all.0 all.1 all.2)
    no_right false e f = refl

  pub is_same : (why : Stop) → by_stop count status n apart b why ≡ Ok Same → (apart ≡ n) × (count ≡ n) × StatusIs why status
  is_same ended e = yes_right end_number (is_right count status n apart end_number) refl e
  is_same stuck e = yes_right stuck_number (is_right count status n apart stuck_number) refl e
  is_same deep e = let z : ◌≡◌ {A = ℕ} 0 1 = cc in absurd (omega arith)

  pub differs_is : (why : Stop) → (why ≡ deep → ⊥) → (apart ≡ n → count ≡ n → StatusIs why status → ⊥)
      → by_stop count status n apart b why ≡ Ok (Differs apart)
  differs_is ended h f = no_right end_number (is_right count status n apart end_number) refl f
  differs_is stuck h f = no_right stuck_number (is_right count status n apart stuck_number) refl f
  differs_is deep h f = absurd (h refl)
