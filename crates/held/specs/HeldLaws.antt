-- Records that a list has already, number by number (`is_row`).
--     rows_are     a list at whose start records were put has each of them
--     rows_held    a list that has each of some records at its start is left as it is where they are put
-- Assumes nothing.
use Rattle.std.specs.Prelude.{◌≡◌, refl, Bool, ◌&&◌, List, [], ◌∷◌, ◌++◌, length, get_or, drop, set}
use Rattle.std.proofs.Common.{sym, ap, ◌∙◌, add-zero, get_or-drop, drop-drop}
use Rattle.std.proofs.Math.Bool.{true, and-eq-true_iff}
use Prim.Native.Nat.{ℕ, suc, ◌+◌, ◌*◌, ◌≤◌, ◌<◌}
use native.Mathlib.Omega.{arith}
use Rattle.std.proofs.Math.Dec.{eqb}
use Rattle.std.proofs.lemmas.List.{set-get_or}
use Rattle.std.proofs.lemmas.List.Edits.{sets}
use borrow.Author.Tests.{eq-eqb, eqb-true}
use Rattle.base.specs.CasesLaws.{and_yes}
use Rattle.rows.specs.Store.{words_all}
use Rattle.rows.specs.StoreLaws as store
use Rattle.rows.specs.Row.{row_words, room, words_of, row_at, put_row, put_rows, put_rows_at}
use Rattle.rows.specs.RowLaws.{put_by_stores, puts_none, puts_next, rows_one_by_one}
use Rattle.rows.specs.declared.Row.{Row}
use Rattle.held.specs.Held.{is_span, is_row}

-- ---- numbers

-- these numbers stand in a list from a place on
abbrev Stand : List ℕ → ℕ → List ℕ → Type 0
Stand l at [] = Unit {0}
Stand l at (n ∷ numbers) = (get_or l at 0 ≡ n) × Stand l (suc at) numbers

stand_sets : (numbers l : List ℕ) (at : ℕ) → Stand l at numbers → sets l at numbers ≡ l
stand_sets [] l at h = refl
stand_sets (n ∷ numbers) l at h =
    ap (λ (m : List ℕ). sets m (suc at) numbers) (ap (set l at) (sym h.0) ∙ set-get_or l at 0) ∙ stand_sets numbers l (suc at) h.1

there_stand : (numbers rest l : List ℕ) (at : ℕ) → drop at l ≡ numbers ++ rest → Stand l at numbers
there_stand [] rest l at e = tt
there_stand (n ∷ numbers) rest l at e =
    let next : suc at ≡ at + 1 = omega arith in (
      rw (add-zero at) at (sym (get_or-drop at l 0 0)) ∙ ap (λ (m : List ℕ). get_or m 0 0) e,
      there_stand numbers rest l (suc at) (ap (λ (k : ℕ). drop k l) next ∙ sym (drop-drop 1 at l) ∙ ap (drop 1) e),
    )

-- ---- one record

module _ (l : List ℕ) (i : ℕ) (r : Row) where
  -- a number, wherever its place is told
  moved : {m n x : ℕ} → m ≡ n → get_or l n 0 ≡ x → get_or l m 0 ≡ x
  moved e f = ap (λ (k : ℕ). get_or l k 0) e ∙ f

  is_stand : is_row l i r ≡ true → Stand l (row_words * i) (words_of r)
  unfolding is_row is_span row_at
  is_stand e =
      let a : ℕ = row_words * i in
      let at_1 : suc a ≡ a + 1 = omega arith in
      let at-2 : suc (suc a) ≡ a + 2 = omega arith in
      let at-3 : suc (suc (suc a)) ≡ a + 3 = omega arith in
      let at-4 : suc (suc (suc (suc a))) ≡ a + 4 = omega arith in
      let at_5 : suc (suc (suc (suc (suc a)))) ≡ a + 5 = omega arith in
      let at-6 : suc (suc (suc (suc (suc (suc a))))) ≡ a + 6 = omega arith in
      let at_7 : suc (suc (suc (suc (suc (suc (suc a)))))) ≡ a + 7 = omega arith in
      let one = one_of e in
      let two = one_of one.1 in
      let three = one_of two.1 in
      let rest = (and-eq-true_iff _ _).0 three.1 in
      let four = one_of rest.0 in
      let five = one_of four.1 in
      let six = one_of five.1 in (
        one.0,
        (
          moved at_1 two.0,
          (
            moved at-2 three.0,
            (
              moved at-3 four.0,
              (
                moved at-4 five.0,
                (moved at_5 six.0, (moved at-6 (sym (eqb-true _ _ six.1)), (moved at_7 (sym (eqb-true _ _ rest.1)), tt))),
              ),
            ),
          ),
        ),
      )
    where
      one_of : {x y : ℕ} {t : Bool} → (eqb x y && t) ≡ true → (y ≡ x) × (t ≡ true)
      one_of {x} {y} {t} f = let both = (and-eq-true_iff (eqb x y) t).0 f in (sym (eqb-true x y both.0), both.1)

  stand_is : Stand l (row_words * i) (words_of r) → is_row l i r ≡ true
  unfolding is_row is_span row_at
  stand_is h =
      and_yes _ _ _ (same h.0) (and_yes _ _ _ (same (moved (omega arith) h.1.0)) (and_yes _ _ _ (same (moved (omega arith) h.1.1.0))
      (and_yes _ _ _
      (and_yes _ _ _ (same (moved (omega arith) h.1.1.1.0)) (and_yes _ _ _ (same (moved (omega arith) h.1.1.1.1.0))
      (and_yes _ _ _ (same (moved (omega arith) h.1.1.1.1.1.0)) (same (moved (omega arith) h.1.1.1.1.1.1.0)))))
      (same (moved (omega arith) h.1.1.1.1.1.1.1.0)))))
    where
      same : {x y : ℕ} → y ≡ x → eqb x y ≡ true
      same {x} {y} e = eq-eqb x y (sym e)

  row_held : i < room l → is_row l i r ≡ true → put_row l i r ≡ l
  row_held h e = sym (put_by_stores l i r h) ∙ stand_sets (words_of r) l (row_words * i) (is_stand e)

-- ---- many records

pub rows_are : (l : List ℕ) (rows : List Row) (i : ℕ) (d : Row) → i < length rows → is_row (put_rows l rows) i (get_or rows i d) ≡ true
unfolding put_rows
rows_are l rows i d h =
    stand_is (put_rows l rows) i (get_or rows i d)
    (there_stand (words_of (get_or rows i d)) (words_all words_of (drop (suc i) rows) ++ drop (row_words * length rows) l) (put_rows l rows) (row_words * i)
    (store.all_there row_words words_of (λ r. refl) l rows i d h))

-- from record k on
held_from : (l : List ℕ) (k : ℕ) (rows : List Row) → k + length rows ≤ room l
    → ((i : ℕ) (d : Row) → i < length rows → is_row l (k + i) (get_or rows i d) ≡ true) → put_rows_at l k rows ≡ l
held_from l k [] h e = puts_none l k
held_from l k (r ∷ rows) h e =
    puts_next l k r rows
    ∙ ap (λ (m : List ℕ). put_rows_at m (k + 1) rows) (row_held l k r (omega arith) (ap (λ (n : ℕ). is_row l n r) (sym (add-zero k)) ∙ e 0 r (omega arith)))
    ∙ held_from l (k + 1) rows (omega arith)
    (λ i d lt. ap (λ (n : ℕ). is_row l n (get_or rows i d)) (omega arith) ∙ e (suc i) d (omega arith))

pub rows_held : (l : List ℕ) (rows : List Row) → length rows ≤ room l
    → ((i : ℕ) (d : Row) → i < length rows → is_row l i (get_or rows i d) ≡ true) → put_rows l rows ≡ l
rows_held l rows h e =
    sym (rows_one_by_one l rows)
    ∙ held_from l 0 rows (omega arith) (λ i d lt. ap (λ (n : ℕ). is_row l n (get_or rows i d)) (omega arith) ∙ e i d lt)
