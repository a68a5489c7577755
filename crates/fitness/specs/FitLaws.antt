-- Laws of `table_check`.
--     fit_of, fit_by_lem                      what holds of a fit table, and that nothing else is asked
--     bad_count, bad_run, bad_ascii       the place of refusal 2 in each of its cases, which exclude each other and leave nothing out
--     class_most, start_continues         what a fit table says of any code point
--     ascii_rule                          a rule that the small table keeps at each of the code points 0 to 127, every fit table keeps
--     runs_done, runs_rise                no run is bad, and what that gives a look-up
-- Assumes nothing.
use Prim.Native.Nat.{ℕ, zero, suc, ◌-◌, ◌<◌, ◌≤◌}
use native.Mathlib.Omega.{arith}
use Rattle.std.specs.Prelude.{◌≡◌, List, Bool, true, false, ltb, leb, get_or, Result, Ok, Err}
use Rattle.std.proofs.Math.Path.{refl, ap}
use Rattle.std.proofs.Common.{◌∙◌}
use Rattle.std.proofs.Math.Dec.{eqb-suc-zero}
use Rattle.std.proofs.Math.ListN.{length}
use borrow.Author.Tests.{eqb-true, ltb-true, ltb-false, leb-true, eq-eqb, ne_eqb, lt-ltb, le-ltb}
use Rattle.base.specs.Pick.{pick}
use Rattle.base.specs.PickLaws.{split_eq, is_second}
use Rattle.base.specs.AllLaws.{and_left, and_right}
use Rattle.property.specs.Parts.{properties_of, xid_start, xid_continue, class_of}
use Rattle.property.specs.Table.{properties_at, start_at, Rises}
use Rattle.property.specs.TableLaws.{of_runs}
use Rattle.fitness.specs.Small.{small_table}
use Rattle.fitness.specs.First.{first_bad}
use Rattle.fitness.specs.FirstLaws.{good_before, none_bad, some_bad, is_first}
use Rattle.fitness.specs.Fit.{start_ok, properties_ok, run_ok, ascii_ok, count_ok, table_check, number_of, RunsOk, FitTable}
use Rattle.fitness.specs.declared.TableError.{TableError}
use Rattle.fitness.specs.declared.TableError.TheVariants.{BadTable}

-- ---- tests that passed

passed : (t : Bool) (r : Result (Unit {0}) TableError) (i : ℕ) → pick t r (Err (BadTable i)) ≡ Ok tt → (t ≡ true) × (r ≡ Ok tt)
passed true r i e = (refl, e)
passed false r i e = absurd (let z : ◌≡◌ {A = ℕ} 0 1 = cc in omega arith)

-- ---- the run rules, at every run

module _ (table : List ℕ) where
  pub runs_done : length table ≤ first_bad (run_ok table) 0 (length table) → RunsOk table
  runs_done h i l = good_before (run_ok table) 0 (length table) i (omega arith) (omega arith)

  module _ (runs : RunsOk table) where
    first_start : 0 < length table → start_at table 0 ≡ 0
    unfolding run_ok start_ok
    first_start h = eqb-true (start_at table 0) 0 (and_left (start_ok table 0) _ (runs 0 h))

    next_start : (i : ℕ) → suc i < length table → start_at table i < start_at table (suc i)
    unfolding run_ok start_ok
    next_start i h =
        let e : suc i - 1 ≡ i = omega arith in
        ltb-true (start_at table i) (start_at table (suc i)) (rw (eqb-suc-zero, e) at (and_left (start_ok table (suc i)) _ (runs (suc i) h)))

    rising : (i j : ℕ) → i < j → j < length table → start_at table i < start_at table j
    rising i zero h k = absurd (omega arith)
    rising i (suc j) h k =
        split_eq i j (λ e. rw e (next_start j k))
        (λ e. omega (arith, rising i j (omega arith) (omega arith), next_start j k))

    pub runs_rise : 0 < length table → Rises table
    runs_rise h = record { some = h; first = first_start h; rising = rising }

    run_fine : (i : ℕ) → i < length table → properties_ok (properties_of (get_or table i 0)) ≡ true
    unfolding run_ok
    run_fine i h = and_right (leb (start_at table i) 1114111) _ (and_right (start_ok table i) _ (runs i h))

    fine : (c : ℕ) → properties_ok (properties_at table c) ≡ true
    unfolding properties_ok
    fine c = of_runs (λ (p : ℕ). properties_ok p ≡ true) table c refl run_fine

-- ---- a fit table

module _ (table : List ℕ) where
  pub fit_of : table_check table ≡ Ok tt → FitTable table
  unfolding table_check
  fit_of e =
      let count = length table in
      let p = passed (count_ok count) _ _ e in
      let q = is_second {A = Result (Unit {0}) TableError} (ltb (first_bad (run_ok table) 0 count) count) _ _ (Ok tt) (λ z. omega (arith, ap number_of z)) p.1 in
      let a = is_second {A = Result (Unit {0}) TableError} (ltb (first_bad (ascii_ok table) 0 128) 128) _ _ (Ok tt) (λ z. omega (arith, ap number_of z)) q.1 in
      let all : 128 ≤ first_bad (ascii_ok table) 0 128 = ltb-false _ _ a.0 in
      let runs : RunsOk table = runs_done table (ltb-false _ _ q.0) in
      record {
        most = leb-true count 8000 (and_right (leb 1 count) _ p.0);
        rises = runs_rise table runs (leb-true 1 count (and_left _ _ p.0));
        runs = runs;
        ascii = λ c h. eqb-true _ _ (good_before (ascii_ok table) 0 128 c (omega arith) (omega arith));
      }

  -- ---- the answer in each case

  pub bad_count : count_ok (length table) ≡ false → table_check table ≡ Err (BadTable 0)
  unfolding table_check
  bad_count e = rw e

  module _ (many : count_ok (length table) ≡ true) where
    pub bad_run :
        (i : ℕ) → i < length table → ((j : ℕ) → j < i → run_ok table j ≡ true) → run_ok table i ≡ false → table_check table ≡ Err (BadTable i)
    unfolding table_check
    bad_run i h good bad =
        let f : first_bad (run_ok table) 0 (length table) ≡ i =
        is_first (run_ok table) 0 _ i (omega arith) (omega arith) (λ j _ m. good j m) bad in
        rw (many, f, lt-ltb _ _ h)

    module _ (runs : RunsOk table) where
      no_bad_run : first_bad (run_ok table) 0 (length table) ≡ length table
      no_bad_run = none_bad (run_ok table) 0 _ (λ i _ m. runs i (omega arith)) ∙ omega arith

      pub bad_ascii :
          (c : ℕ) → c < 128 → (properties_at table c ≡ properties_at small_table c → ⊥) → table_check table ≡ Err (BadTable (length table))
      unfolding table_check
      bad_ascii c h bad =
          let f : first_bad (ascii_ok table) 0 128 < 128 = some_bad (ascii_ok table) 0 128 c (omega arith) h (ne_eqb _ _ bad) in
          rw (many, no_bad_run, le-ltb (length table) (length table) (omega arith), lt-ltb _ _ f)

      pub fit_by_lem : ((c : ℕ) → c < 128 → properties_at table c ≡ properties_at small_table c) → table_check table ≡ Ok tt
      unfolding table_check
      fit_by_lem same =
          let f : first_bad (ascii_ok table) 0 128 ≡ 128 = none_bad (ascii_ok table) 0 128 (λ c _ m. eq-eqb _ _ (same c (omega arith))) in
          rw (many, no_bad_run, le-ltb (length table) (length table) (omega arith), f)

  -- ---- what a fit table says of a code point

  module _ (fit : FitTable table) (c : ℕ) where
    pub class_most : class_of (properties_at table c) ≤ 13
    unfolding properties_ok
    class_most = leb-true _ 13 (and_left _ _ (fine table fit.runs c))

    pub start_continues : xid_start (properties_at table c) ≡ true → xid_continue (properties_at table c) ≡ true
    unfolding properties_ok
    start_continues e = rw e at (and_right (leb (class_of (properties_at table c)) 13) _ (fine table fit.runs c))

    pub ascii_rule :
        (rule : ℕ → ℕ → Bool) → first_bad (λ k. rule k (properties_at small_table k)) 0 128 ≡ 128 → c < 128
        → rule c (properties_at table c) ≡ true
    ascii_rule rule all h =
        rw (fit.ascii c h) (good_before (λ k. rule k (properties_at small_table k)) 0 128 c (omega arith) (omega arith))
