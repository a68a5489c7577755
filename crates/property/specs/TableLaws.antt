-- Laws of `properties_at`.
--     run_properties        the answer is that of the run that has the code point
--     one_run               no second run has it
--     all_above, in_run     where starts rise: a run that starts above the code point, and all after it; a run has it by its start and the next
--     has_code_lem              where starts rise, a run has the code point by the tests that `has_code` makes
--     first_runs            where all later runs start above the code point, the first n give the answer
--     of_runs               what holds of every run's properties, and of 0, holds of every code point's
--     properties_below, width_most_lem    bounds that every list keeps
-- Assumes nothing.
use Rattle.std.specs.Prelude.{ℕ, zero, suc, ◌+◌, ◌<◌, ◌≤◌, ◌≡◌, refl, true, ltb, leb, length, get_or, take}
use Rattle.std.proofs.Common.{arith}
use mathlib.Core.List.{List, [], ◌∷◌}
use borrow.Author.Tests.{ltb-true, leb-true, lt-ltb, le-ltb, ne_eqb}
use Rattle.base.specs.Pick.{pick}
use Rattle.base.specs.PickLaws.{by_test, split_lt, split_eq}
use Rattle.base.specs.AllLaws.{and_left, and_right}
use Rattle.property.specs.Parts.{start_of, properties_of, width_of}
use Rattle.property.specs.Table.{last_from, properties_at, start_at, HasRun, Rises}
use Rattle.property.specs.Near.{has_code}

-- no run starts at c or before
none_more : (p : ℕ) (l : List ℕ) (c : ℕ) → ((j : ℕ) → j < length l → c < start_at l j) → last_from p l c ≡ p
unfolding last_from
none_more p [] c above = refl
none_more p (r ∷ rs) c above =
    rw (lt-ltb c (start_of r) (above 0 (omega arith))) (none_more p rs c (λ j h. above (suc j) (omega arith)))

pub first_runs :
    (n p : ℕ) (l : List ℕ) (c : ℕ) → ((j : ℕ) → n ≤ j → j < length l → c < start_at l j) → last_from p l c ≡ last_from p (take n l) c
unfolding last_from
first_runs zero p l c above = none_more p l c (λ j h. above j (omega arith) h)
first_runs (suc n) p [] c above = refl
first_runs (suc n) p (r ∷ rs) c above = first_runs n _ rs c (λ j i h. above (suc j) (omega arith) (omega arith))

last_run :
    (p : ℕ) (l : List ℕ) (c k : ℕ) → k < length l → start_at l k ≤ c → ((j : ℕ) → k < j → j < length l → c < start_at l j)
    → last_from p l c ≡ properties_of (get_or l k 0)
unfolding last_from
last_run p [] c k h low above = absurd (omega arith)
last_run p (r ∷ rs) c zero h low above =
    rw (le-ltb c (start_of r) low) (none_more (properties_of r) rs c (λ j i. above (suc j) (omega arith) (omega arith)))
last_run p (r ∷ rs) c (suc k) h low above =
    last_run (pick (ltb c (start_of r)) p (properties_of r)) rs c k (omega arith) low (λ j i m. above (suc j) (omega arith) (omega arith))

module _ (table : List ℕ) (c : ℕ) where
  pub run_properties : (k : ℕ) → HasRun table c k → properties_at table c ≡ properties_of (get_or table k 0)
  run_properties k h = last_run 0 table c k h.within h.low h.above

  -- of two runs the later one starts at most at c, and so the earlier one does not have it
  pub one_run : (j k : ℕ) → HasRun table c j → HasRun table c k → j ≡ k
  one_run j k h i =
      split_lt j k (λ l. absurd (omega (arith, h.above k l i.within, i.low)))
      (λ l. split_lt k j (λ m. absurd (omega (arith, i.above j m h.within, h.low))) (λ m. omega arith))

  pub all_above : (n : ℕ) → Rises table → c < start_at table n → (j : ℕ) → n ≤ j → j < length table → c < start_at table j
  all_above n r h j i l = split_eq n j (λ e. rw e at h) (λ e. omega (arith, r.rising n j (omega arith) l))

  -- a run ends before the next one's start
  pub in_run : (k : ℕ) → Rises table → k < length table → start_at table k ≤ c → (k + 1 < length table → c < start_at table (k + 1))
      → HasRun table c k
  in_run k r h low high =
      record { within = h; low = low; above = λ j i m. all_above (k + 1) r (high (omega arith)) j (omega arith) m }

  pub has_code_lem : (k : ℕ) → Rises table → has_code table c k ≡ true → HasRun table c k
  unfolding has_code
  has_code_lem k r e =
      let starts = and_right (ltb k (length table)) _ e in
      let ends = and_right (leb (start_at table k) c) _ starts in
      in_run k r (ltb-true k (length table) (and_left (ltb k (length table)) _ e))
      (leb-true (start_at table k) c (and_left (leb (start_at table k) c) _ starts))
      (λ h. ltb-true c (start_at table (k + 1)) (rw (ne_eqb (k + 1) (length table) (λ q. omega arith)) at ends))

module _ (P : ℕ → Type 0) where
  of_runs_from :
      (p : ℕ) (l : List ℕ) (c : ℕ) → P p → ((i : ℕ) → i < length l → P (properties_of (get_or l i 0))) → P (last_from p l c)
  unfolding last_from
  of_runs_from p [] c h runs = h
  of_runs_from p (r ∷ rs) c h runs =
      of_runs_from (pick (ltb c (start_of r)) p (properties_of r)) rs c (by_test P (ltb c (start_of r)) (λ e. h) (λ e. runs 0 (omega arith))) (λ i l. runs (suc i) (omega arith))

  pub of_runs : (table : List ℕ) (c : ℕ) → P 0 → ((i : ℕ) → i < length table → P (properties_of (get_or table i 0))) → P (properties_at table c)
  of_runs table c = of_runs_from 0 table c

pub properties_below : (table : List ℕ) (c : ℕ) → properties_at table c < 2048
properties_below table c = of_runs (λ (p : ℕ). p < 2048) table c (omega arith) (λ i h. omega arith)

pub width_most_lem : (properties : ℕ) → width_of properties ≤ 3
width_most_lem properties = omega arith
