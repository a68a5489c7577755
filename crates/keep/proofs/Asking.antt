-- What the loop of `kept_rows` keeps, over lists and numbers: what is answered from record i on is the answer.
--     begins                                    none was looked at
--     is_unchained, is_backward, is_last, not_last, at_end    the ways out
--     goes_on                                   one record more
-- Assumes nothing.
use Prim.Native.Nat.{ℕ, suc, ◌+◌, ◌*◌, ◌-◌, ◌≤◌, ◌<◌}
use native.Mathlib.Omega.{arith}
use native.Mathlib.Numerals.{add-one}
use mathlib.Core.Path.{◌≡◌, sym, ap, ◌∙◌}
use mathlib.Core.Bool.{Bool, true, false, ◌&&◌}
use mathlib.Core.List.{List}
use lib.Dec.{ltb}
use borrow.Author.Tests.{lt-ltb, le-ltb}
use Rattle.base.specs.Pick.{pick}
use Rattle.rows.specs.Row.{row_words, row_from, row_at, first_at}
use Rattle.rows.specs.declared.Row.{Row}
use Rattle.keep.specs.Keep.{no_row, row_before, chained, forward, links, closes, kept_from, kept_rows}

-- i records were looked at, of which `before` is the last
pub record Asked (t : List ℕ) (line : ℕ) (list : List ℕ) (count : ℕ) (before : Row) (i : ℕ) : Type 0 where
  pub within : i ≤ count
  pub last : before ≡ row_before list i
  pub rest : kept_from t line list (count - i) i ≡ kept_rows t line list count

module _ (t : List ℕ) (line : ℕ) (list : List ℕ) (count : ℕ) where
  pub begins : (before : Row) → before ≡ no_row → Asked t line list count before 0
  unfolding kept_rows
  begins before e =
      let n : count - 0 ≡ count = omega arith in
      record { within = omega arith; last = e; rest = ap (λ (m : ℕ). kept_from t line list m 0) n }

  module _ (before : Row) (i : ℕ) (a : Asked t line list count before i) where
    pub at_end : count ≤ i → 0 ≡ kept_rows t line list count
    at_end h = let e : 0 ≡ count - i = omega arith in ap (λ (n : ℕ). kept_from t line list n i) e ∙ a.rest

    -- record i is the row
    module _ (h : i < count) (row : Row) (e : row ≡ row_from list (row_words * i)) where
      is_row : row ≡ row_at list i
      unfolding row_at
      is_row = e

      links_is : links list i ≡ (chained before row && forward row)
      unfolding links
      links_is = sym (λ k. chained (a.last k) (is_row k) && forward (is_row k))

      -- the answer, by the record
      step : pick (links list i) (pick (ltb (row_at list i).end line) (kept_from t line list (count - (i + 1)) (i + 1))
          (pick (closes t line (first_at list i) (row_at list i)) (i + 1) 0)) 0 ≡ kept_rows t line list count
      step = let n : suc (count - (i + 1)) ≡ count - i = omega arith in ap (λ (m : ℕ). kept_from t line list m i) n ∙ a.rest

      pub is_unchained : {r : Bool} → r ≡ chained before row → r ≡ false → 0 ≡ kept_rows t line list count
      is_unchained q f = let l : links list i ≡ false = links_is ∙ rw (sym q ∙ f) in sym (rw l) ∙ step

      -- it is chained
      module _ {r : Bool} (q : r ≡ chained before row) (f : r ≡ true) where
        pub is_backward : {s : Bool} → s ≡ forward row → s ≡ false → 0 ≡ kept_rows t line list count
        is_backward p g = let l : links list i ≡ false = links_is ∙ rw (sym q ∙ f, sym p ∙ g) in sym (rw l) ∙ step

        -- and does not end before it starts
        module _ {s : Bool} (p : s ≡ forward row) (g : s ≡ true) where
          linked : links list i ≡ true
          linked = links_is ∙ rw (sym q ∙ f, sym p ∙ g)

          end_is : row.end ≡ (row_at list i).end
          end_is = ap (λ (x : Row). x.end) is_row

          pub goes_on : row.end < line → Asked t line list count row (i + 1)
          goes_on k =
              record {
                within = omega arith;
                last = is_row ∙ ap (row_before list) (sym (add-one i));
                rest = sym (rw (linked, lt-ltb (row_at list i).end line (omega (arith, end_is)))) ∙ step;
              }

          -- the line starts at its end or before
          module _ (k : line ≤ row.end) {first : ℕ} (w : first ≡ first_at list i) {u : Bool} (v : u ≡ closes t line first row) where
            closes_is : closes t line (first_at list i) (row_at list i) ≡ u
            closes_is = sym (v ∙ (λ j. closes t line (w j) (is_row j)))

            pub is_last : u ≡ true → i + 1 ≡ kept_rows t line list count
            is_last y = sym (rw (linked, le-ltb (row_at list i).end line (omega (arith, end_is)), closes_is ∙ y)) ∙ step

            pub not_last : u ≡ false → 0 ≡ kept_rows t line list count
            not_last y = sym (rw (linked, le-ltb (row_at list i).end line (omega (arith, end_is)), closes_is ∙ y)) ∙ step
