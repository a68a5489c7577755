-- Laws of bytes that pass a test.
--     counts_none, counts_more       a block that is counted: before its first byte, and at one byte more
--     passes_none, passes_one, passes_on     bytes that are passed: none, one more, and those behind them
--     passes_count, passes_all       what was counted of a block is passed, and a whole block
--     stays_is                       the tests that a byte has passed which stays
-- Assumes nothing.
use Rattle.std.specs.Prelude.{ℕ, ◌+◌, ◌-◌, ◌≤◌, ◌<◌, ◌≡◌, Bool, true, false, not, ◌&&◌, List, eqb, ltb, length, get_or}
use Rattle.std.proofs.Common.{arith, sym, subst}
use Rattle.std.proofs.lemmas.Bool.{not-true}
use Rattle.base.specs.AllLaws.{and_left, and_right}
use Rattle.base.specs.Pick.{pick}
use Rattle.base.specs.PickLaws.{by_lt, split_eq, split_lt}
use Rattle.fitness.specs.Ascii.{is_printable}
use Rattle.skip.specs.Skip.{stays_but, Passed, Counts}

module _ {test : ℕ → Bool} {s : List ℕ} {i : ℕ} where
  -- ---- a block

  pub counts_none : (most : ℕ) → Counts test s i most 0 most
  counts_none most = record { less = omega arith; stays = λ j h k. absurd (omega arith); out = λ h. absurd (omega arith) }

  module _ {most k n : ℕ} (c : Counts test s i most k n) where
    -- m is n, or falls to the place k
    falls : (m : ℕ) → m ≤ n → (k < m → test (get_or s (i + k) 0) ≡ true) → (m < most → test (get_or s (i + m) 0) ≡ false) → Counts test s i most (k + 1) m
    falls m h t o =
        record {
          less = omega (arith, c.less);
          stays = λ j a b. split_eq j k (λ e. subst (λ (x : ℕ). test (get_or s (i + x) 0) ≡ true) (sym e) (t (omega arith))) (λ e. c.stays j (omega arith) (omega arith));
          out = o;
        }

    at_out : (t : Bool) → t ≡ test (get_or s (i + k) 0) → (p : ℕ) → p ≡ pick t most k → Counts test s i most (k + 1) (pick (ltb p n) p n)
    at_out true e p f =
        by_lt (λ (m : ℕ). Counts test s i most (k + 1) m) p n (λ h. absurd (omega (arith, c.less))) (λ h. falls n (omega arith) (λ _. sym e) c.out)
    at_out false e p f =
        by_lt (λ (m : ℕ). Counts test s i most (k + 1) m) p n
        (λ h. falls p (omega arith) (λ g. absurd (omega arith)) (λ _. subst (λ (x : ℕ). test (get_or s (i + x) 0) ≡ false) (sym f) (sym e)))
        (λ h. falls n (omega arith) (λ g. absurd (omega arith)) c.out)

    pub counts_more : {t : Bool} {p r : ℕ} → t ≡ test (get_or s (i + k) 0) → p ≡ pick t most k → r ≡ pick (ltb p n) p n
        → Counts test s i most (k + 1) r
    counts_more {t} {p} e f g = subst (Counts test s i most (k + 1)) (sym g) (at_out t e p f)

  -- ---- one after the other

  pub passes_none : i ≤ length s → Passed test s i i
  passes_none h = record { on = omega arith; within = h; stays = λ k a b. absurd (omega arith) }

  module _ {j : ℕ} (p : Passed test s i j) where
    pub passes_one : j < length s → test (get_or s j 0) ≡ true → Passed test s i (j + 1)
    passes_one h t =
        record {
          on = omega (arith, p.on);
          within = omega arith;
          stays = λ k a b. split_eq k j (λ e. rw e t) (λ e. p.stays k a (omega arith));
        }

    pub passes_on : {k : ℕ} → Passed test s j k → Passed test s i k
    passes_on q =
        record {
          on = omega (arith, p.on, q.on);
          within = q.within;
          stays = λ m a b. split_lt m j (λ l. p.stays m a l) (λ l. q.stays m l b);
        }

  -- what was counted of a block
  pub passes_count : {most n : ℕ} → i + most ≤ length s → Counts test s i most most n → Passed test s i (i + n)
  passes_count {most} {n} h c =
      record {
        on = omega arith;
        within = omega (arith, c.less);
        stays = λ k a b. let e : i + (k - i) ≡ k = omega arith in rw e at (c.stays (k - i) (omega arith) (omega (arith, c.less)));
      }

  -- of a whole block
  pub passes_all : (j : ℕ) {n m : ℕ} → Passed test s i (j + n) → n ≡ m → Passed test s i (j + m)
  passes_all j p e = subst (λ (n : ℕ). Passed test s i (j + n)) e p

-- ---- what stays

-- the tests that a byte has passed
pub record Stays (a b c x : ℕ) : Type 0 where
  pub printable : is_printable x ≡ true
  pub no_a : eqb x a ≡ false
  pub no_b : eqb x b ≡ false
  pub no_c : eqb x c ≡ false

pub stays_is : (a b c x : ℕ) → stays_but a b c x ≡ true → Stays a b c x
unfolding stays_but
stays_is a b c x e =
    let three = and_left _ (not (eqb x c)) e in
    let two = and_left _ (not (eqb x b)) three in
    record {
      printable = and_left _ (not (eqb x a)) two;
      no_a = not-true _ (and_right (is_printable x) _ two);
      no_b = not-true _ (and_right (is_printable x && not (eqb x a)) _ three);
      no_c = not-true _ (and_right (is_printable x && not (eqb x a) && not (eqb x b)) _ e);
    }
