-- What callers use of the records that are kept.
--     keeps_of, kept_of     k + 1 records are kept exactly where `Keeps` says so of k
--     keeps_within          no more than there are
--     last_is, over_some    the last of them, part by part; it has bytes
--     link_forward          a record that links does not end before it starts
-- Assumes nothing.
use Rattle.std.specs.Prelude.{ℕ, zero, suc, ◌+◌, ◌≤◌, ◌<◌, ◌≡◌, refl, Bool, true, ◌&&◌, List, eqb, leb}
use Rattle.std.proofs.Common.{arith, zero-add, sym, leb-true, eqb-true, lt-ltb, le-ltb}
use Rattle.std.proofs.Math.Path.{subst}
use Rattle.std.proofs.Math.Bool.{and-eq-true_iff}
use Rattle.base.specs.PickLaws.{by_test, by_lt, by_eq, split_lt}
use Rattle.token.specs.Kind.{new_line}
use Rattle.rows.specs.Row.{row_at, first_at}
use Rattle.rows.specs.declared.Row.{Row}
use Rattle.keep.specs.Keep.{row_before, chained, forward, links, over_newline, closes, Keeps, kept_from, kept_rows}

-- the last record, part by part
pub record Last (t : List ℕ) (line first : ℕ) (r : Row) : Type 0 where
  pub end : r.end ≡ line
  pub first_number : first ≡ new_line
  pub column : r.end_column ≡ 0
  pub lines : r.end_line ≤ r.end
  pub over : over_newline t r ≡ true

pub last_is : (t : List ℕ) (line first : ℕ) (r : Row) → closes t line first r ≡ true → Last t line first r
unfolding closes
last_is t line first r e =
    let over = over_newline t r in
    let lines = leb r.end_line r.end && over in
    let columns = eqb r.end_column 0 && lines in
    let a = (and-eq-true_iff (eqb r.end line) (eqb first new_line && columns)).0 e in
    let b = (and-eq-true_iff (eqb first new_line) columns).0 a.1 in
    let c = (and-eq-true_iff (eqb r.end_column 0) lines).0 b.1 in
    let d = (and-eq-true_iff (leb r.end_line r.end) over).0 c.1 in
    record {
      end = eqb-true r.end line a.0;
      first_number = eqb-true first new_line b.0;
      column = eqb-true r.end_column 0 c.0;
      lines = leb-true r.end_line r.end d.0;
      over = d.1;
    }

-- a record over a newline has bytes
pub over_some : (t : List ℕ) (r : Row) → over_newline t r ≡ true → r.start < r.end
over_some t r =
    by_eq (λ (b : Bool). b ≡ true → r.start < r.end) r.end (r.start + 1) (λ h e. omega arith)
    (λ h e. let n : r.end ≡ r.start + 2 = eqb-true r.end (r.start + 2) ((and-eq-true_iff (eqb r.end (r.start + 2)) _).0 e).0 in omega arith)

-- a record that links does not end before it starts
pub link_forward : (list : List ℕ) (i : ℕ) → links list i ≡ true → (row_at list i).start ≤ (row_at list i).end
unfolding links
link_forward list i e =
    let r = row_at list i in
    let a = (and-eq-true_iff (chained (row_before list i) r) (forward r)).0 e in
    leb-true r.start r.end ((and-eq-true_iff (leb r.start r.end) _).0 a.1).0

module _ (t : List ℕ) (line : ℕ) (list : List ℕ) where
  -- ---- what is kept is as `Keeps` says

  -- i records were looked at
  abbrev Passed : ℕ → Type 0
  Passed i = (j : ℕ) → j < i → (links list j ≡ true) × ((row_at list j).end < line)

  passed_next : (i : ℕ) → Passed i → links list i ≡ true → (row_at list i).end < line → Passed (i + 1)
  passed_next i p e h j k =
      split_lt j i (p j) (λ le. let m : i ≡ j = omega arith in subst (λ (x : ℕ). (links list x ≡ true) × ((row_at list x).end < line)) m (e, h))

  from_keeps : (left i k : ℕ) → Passed i → kept_from t line list left i ≡ suc k → Keeps t line list (i + left) k
  from_keeps zero i k p = λ e. absurd (omega arith)
  from_keeps (suc left) i k p =
      by_test (λ (n : ℕ). n ≡ suc k → Keeps t line list (i + suc left) k) (links list i)
      (λ ok. by_lt (λ (n : ℕ). n ≡ suc k → Keeps t line list (i + suc left) k) (row_at list i).end line
      (λ h e. subst (λ (n : ℕ). Keeps t line list n k) (omega arith) (from_keeps left (i + 1) k (passed_next i p ok h) e))
      (λ h. by_test (λ (n : ℕ). n ≡ suc k → Keeps t line list (i + suc left) k) (closes t line (first_at list i) (row_at list i))
      (λ c e. here ok c (omega arith)) (λ _ e. absurd (omega arith))))
      (λ _ e. absurd (omega arith))
    where
      here : links list i ≡ true → closes t line (first_at list i) (row_at list i) ≡ true → i ≡ k → Keeps t line list (i + suc left) k
      here ok c m =
          subst (Keeps t line list (i + suc left)) m
          (record {
            listed = omega arith;
            before = λ j h. (p j h).1;
            linked = λ j h. split_lt j i (λ lt. (p j lt).0) (λ le. let n : i ≡ j = omega arith in subst (λ (x : ℕ). links list x ≡ true) n ok);
            last = c;
          })

  pub keeps_of : (count k : ℕ) → kept_rows t line list count ≡ suc k → Keeps t line list count k
  unfolding kept_rows
  keeps_of count k e =
      subst (λ (n : ℕ). Keeps t line list n k) (zero-add count) (from_keeps count 0 k (λ j h. absurd (omega arith)) e)

  -- ---- and what `Keeps` says is kept

  from_kept : (left i k : ℕ) → i ≤ k → Keeps t line list (i + left) k → kept_from t line list left i ≡ suc k
  from_kept zero i k h p = absurd (omega (arith, p.listed))
  from_kept (suc left) i k h p =
      split_lt i k
      (λ lt. rw (p.linked i h, lt-ltb (row_at list i).end line (p.before i lt))
      (from_kept left (i + 1) k (omega arith) (subst (λ (n : ℕ). Keeps t line list n k) (omega arith) p)))
      (λ le. let m : i ≡ k = omega arith in
      let l = last_is t line (first_at list k) (row_at list k) p.last in
      let at-k : kept_from t line list (suc left) k ≡ suc k =
      rw (p.linked k (omega arith), le-ltb (row_at list k).end line (omega (arith, l.end)), p.last) (omega arith) in
      subst (λ (x : ℕ). kept_from t line list (suc left) x ≡ suc k) (sym m) at-k)

  pub kept_of : (count k : ℕ) → Keeps t line list count k → kept_rows t line list count ≡ suc k
  unfolding kept_rows
  kept_of count k p = from_kept count 0 k (omega arith) (subst (λ (n : ℕ). Keeps t line list n k) (sym (zero-add count)) p)

  pub keeps_within : (count : ℕ) → kept_rows t line list count ≤ count
  keeps_within count = go (kept_rows t line list count) refl
    where
      go : (n : ℕ) → kept_rows t line list count ≡ n → n ≤ count
      go zero e = omega arith
      go (suc k) e = omega (arith, (keeps_of count k e).listed)
