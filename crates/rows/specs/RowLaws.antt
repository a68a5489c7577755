-- Records written and read back.
--     row_back                          a record's numbers read back are the record
--     same_room                         lists of one length have one room
--     put_by_stores                     eight stores, one after the other, put a record
--     put_length, put_room, put_keeps   putting a record changes no number of another, and neither the list's length nor its room
--     put_same, put_other               record i is then the one that was put, every other is as before
--     rows_none, rows_next              putting one record after the others, from none on
--     rows_length, rows_room, rows_rest    what putting many leaves of the list
--     rows_one_by_one, puts_none, puts_next    putting many one by one, from the first on
--     rows_at                           each of many is read back
--     rows_of_length, rows_of_at        the records of a list, one by one
--     rows_back                         those that were put
--     copy_none, copy_length, copy_room, copy_put    records of one list put into another: none of them, what is left of the list, and those
--                                                    that were put into the first
--     shown_fit, shown_unfit            what is shown at an index, by the test
--     rows_shown                        a record that was put and may be shown is shown
-- Assumes nothing.
use Rattle.std.specs.Prelude.{◌≡◌, true, false, List, [], ◌∷◌, ◌++◌, ℕ, zero, suc, ◌+◌, ◌*◌, ◌/◌, ◌≤◌, ◌<◌, length, get_or, take, drop, Some, None}
use Rattle.std.proofs.Math.Path.{refl, ap}
use Rattle.std.proofs.Common.{sym, ◌∙◌, add-zero, arith, lit<, length-append, length-drop, get_or-drop, ext_get_or}
use Rattle.std.proofs.Math.Seq.{length-take-le}
use Rattle.std.proofs.lemmas.List.Edits.{sets}
use Rattle.rows.specs.First.{first_of, Packs, kind_in, detail_in, depth_in, above_in, row_fits, fits_below}
use Rattle.rows.specs.FirstLaws.{kind_back, detail_back, depth_back, above_back, nothing_above, fits_packs, fits_first, below_fit, below_unfit}
use Rattle.rows.specs.Store.{words_all}
use Rattle.rows.specs.StoreLaws as store
use Rattle.rows.specs.Row.{row_words, room, words_of, row_from, first_row, row_at, put_row, put_rows, put_rows_at, copy_rows, rows_of, above_at, fits_at, shown_at}
use Rattle.rows.specs.declared.Row.{Row}

-- records read from equal numbers are equal
from_agree : (a b : List ℕ) (m n : ℕ) → ((k : ℕ) → k < 8 → get_or a (m + k) 0 ≡ get_or b (n + k) 0) → row_from a m ≡ row_from b n
from_agree a b m n h =
    let h0 : get_or a m 0 ≡ get_or b n 0 = rw (add-zero m, add-zero n) at (h 0 (omega arith)) in
    simp (h0, h 1 (lit< tt), h 2 (lit< tt), h 3 (lit< tt), h 4 (lit< tt), h 5 (lit< tt), h 6 (lit< tt), h 7 (lit< tt))

-- a record is read where its numbers begin
from_drop : (l : List ℕ) (n : ℕ) → row_from l n ≡ first_row (drop n l)
unfolding first_row
from_drop l n = from_agree l (drop n l) n 0 (λ k h. sym (get_or-drop n l (0 + k) 0 ∙ ap (λ (x : ℕ). get_or l (n + x) 0) (omega arith)))

-- the first number keeps kind, detail and depth apart
pub row_back : (r : Row) (l : List ℕ) → Packs r → first_row (words_of r ++ l) ≡ r
unfolding first_row
row_back r l p =
    let k : kind_in (first_of r) ≡ r.kind = kind_back r p (first_of r) 0 (nothing_above r) in
    let d : detail_in (first_of r) ≡ r.detail = detail_back r p (first_of r) 0 (nothing_above r) in
    let n : depth_in (first_of r) ≡ r.depth = depth_back r p (first_of r) 0 (nothing_above r) in
    simp (k, d, n)

-- ---- one record put

pub same_room : (a b : List ℕ) → length a ≡ length b → room a ≡ room b
same_room = store.same_room row_words

module _ (l : List ℕ) (i : ℕ) (r : Row) (h : i < room l) where
  pub put_by_stores : sets l (row_words * i) (words_of r) ≡ put_row l i r
  unfolding put_row
  put_by_stores = store.put_by_stores row_words l i (words_of r) refl h

  pub put_length : length (put_row l i r) ≡ length l
  unfolding put_row
  put_length = store.put_length row_words l i (words_of r) refl h

  pub put_room : room (put_row l i r) ≡ room l
  unfolding put_row
  put_room = store.put_room row_words l i (words_of r) refl h

  pub put_keeps : (k : ℕ) → (k / row_words ≡ i → ⊥) → get_or (put_row l i r) k 0 ≡ get_or l k 0
  unfolding put_row
  put_keeps = store.put_keeps row_words l i (words_of r) refl h

  pub put_same : Packs r → row_at (put_row l i r) i ≡ r
  unfolding row_at put_row
  put_same p =
      from_drop (put_row l i r) (row_words * i)
      ∙ ap first_row (store.put_there row_words l i (words_of r) refl h)
      ∙ row_back r (drop (row_words * i + row_words) l) p

  pub put_other : (j : ℕ) → (j ≡ i → ⊥) → row_at (put_row l i r) j ≡ row_at l j
  unfolding row_at
  put_other j ne = from_agree (put_row l i r) l (row_words * j) (row_words * j) (λ k lt. put_keeps (row_words * j + k) (λ e. ne (omega arith)))

-- ---- many records put

-- each has eight numbers
eight : (r : Row) → length (words_of r) ≡ row_words
eight r = refl

pub rows_none : (l : List ℕ) → put_rows l [] ≡ l
unfolding put_rows
rows_none = store.all_none row_words words_of

module _ (l : List ℕ) (rows : List Row) where
  pub rows_rest : drop (row_words * length rows) (put_rows l rows) ≡ drop (row_words * length rows) l
  unfolding put_rows
  rows_rest = store.all_rest row_words words_of eight l rows

  pub rows_length : length rows ≤ room l → length (put_rows l rows) ≡ length l
  unfolding put_rows
  rows_length = store.all_length row_words words_of eight l rows

  pub rows_room : length rows ≤ room l → room (put_rows l rows) ≡ room l
  unfolding put_rows
  rows_room = store.all_room row_words words_of eight l rows

  pub rows_next : (r : Row) → put_row (put_rows l rows) (length rows) r ≡ put_rows l (rows ++ (r ∷ []))
  unfolding put_row put_rows
  rows_next = store.all_next row_words words_of eight l rows

pub puts_none : (l : List ℕ) (k : ℕ) → put_rows_at l k [] ≡ l
unfolding put_rows_at
puts_none l k = refl

pub puts_next : (l : List ℕ) (k : ℕ) (r : Row) (rows : List Row) → put_rows_at l k (r ∷ rows) ≡ put_rows_at (put_row l k r) (k + 1) rows
unfolding put_rows_at put_row
puts_next l k r rows = refl

pub rows_one_by_one : (l : List ℕ) (rows : List Row) → put_rows_at l 0 rows ≡ put_rows l rows
unfolding put_rows_at put_rows
rows_one_by_one = store.one_by_one row_words words_of eight

-- each of them is read back
pub rows_at : (l : List ℕ) (rows : List Row) (i : ℕ) (d : Row) → i < length rows → Packs (get_or rows i d) → row_at (put_rows l rows) i ≡ get_or rows i d
unfolding row_at put_rows
rows_at l rows i d h p =
    from_drop (put_rows l rows) (row_words * i)
    ∙ ap first_row (store.all_there row_words words_of eight l rows i d h)
    ∙ row_back (get_or rows i d) (words_all words_of (drop (suc i) rows) ++ drop (row_words * length rows) l) p

-- ---- the records of a list

pub rows_of_length : (n : ℕ) (l : List ℕ) → length (rows_of n l) ≡ n
unfolding rows_of
rows_of_length zero l = refl
rows_of_length (suc n) l = ap suc (rows_of_length n (drop row_words l))

pub rows_of_at : (n : ℕ) (l : List ℕ) (i : ℕ) (d : Row) → i < n → get_or (rows_of n l) i d ≡ row_at l i
unfolding rows_of first_row row_at
rows_of_at zero l i d h = absurd (omega arith)
rows_of_at (suc n) l zero d h = refl
rows_of_at (suc n) l (suc i) d h =
    rows_of_at n (drop row_words l) i d (omega arith)
    ∙ from_agree (drop row_words l) l (row_words * i) (row_words * suc i)
    (λ k lt. get_or-drop row_words l (row_words * i + k) 0 ∙ ap (λ (m : ℕ). get_or l m 0) (omega arith))

-- the records that were put are those of the list
pub rows_back : (l : List ℕ) (rows : List Row) (d : Row) → ((i : ℕ) → i < length rows → Packs (get_or rows i d)) → rows_of (length rows) (put_rows l rows) ≡ rows
rows_back l rows d p =
    let n : length (rows_of (length rows) (put_rows l rows)) ≡ length rows = rows_of_length (length rows) (put_rows l rows) in
    ext_get_or d (rows_of (length rows) (put_rows l rows)) rows n
    (λ i h. let lt : i < length rows = omega arith in rows_of_at (length rows) (put_rows l rows) i d lt ∙ rows_at l rows i d lt (p i lt))

-- ---- records of another list

pub copy_none : (from to : List ℕ) → copy_rows 0 from to ≡ to
unfolding copy_rows
copy_none from to = refl

module _ (n : ℕ) (from to : List ℕ) (h : n ≤ room from) (k : n ≤ room to) where
  pub copy_length : length (copy_rows n from to) ≡ length to
  unfolding copy_rows
  copy_length = simp (length-append, length-drop) (omega (arith, length-take-le (row_words * n) from (omega arith)))

  pub copy_room : room (copy_rows n from to) ≡ room to
  copy_room = same_room (copy_rows n from to) to copy_length

-- those that were put there are put here
pub copy_put : (n : ℕ) (l : List ℕ) (rows : List Row) (to : List ℕ) → n ≤ length rows → copy_rows n (put_rows l rows) to ≡ put_rows to (take n rows)
unfolding copy_rows put_rows
copy_put n l rows to h =
    let e : length (take n rows) ≡ n = length-take-le n rows h in
    store.copy_all row_words words_of eight n l rows to h ∙ ap (λ (m : ℕ). words_all words_of (take n rows) ++ drop (row_words * m) to) (sym e)

-- ---- what may be shown

pub shown_fit : (l : List ℕ) (i : ℕ) → fits_at l i ≡ true → shown_at l i ≡ Some (row_at l i)
unfolding shown_at fits_at
shown_fit l i e = below_fit (above_at l i) (row_at l i) e

pub shown_unfit : (l : List ℕ) (i : ℕ) → fits_at l i ≡ false → shown_at l i ≡ None
unfolding shown_at fits_at
shown_unfit l i e = below_unfit (above_at l i) (row_at l i) e

-- a record that was put has nothing above its depth
above_none : (l : List ℕ) (rows : List Row) (i : ℕ) (d : Row) → i < length rows → Packs (get_or rows i d) → above_at (put_rows l rows) i ≡ 0
unfolding put_rows
above_none l rows i d h p =
    let there : get_or (put_rows l rows) (row_words * i) 0 ≡ first_of (get_or rows i d) =
    rw (add-zero (row_words * i)) at (sym (get_or-drop (row_words * i) (put_rows l rows) 0 0) ∙ ap (λ (m : List ℕ). get_or m 0 0) (store.all_there row_words words_of eight l rows i d h)) in
    ap above_in there ∙ above_back (get_or rows i d) p (first_of (get_or rows i d)) 0 (nothing_above (get_or rows i d))

-- so it may be shown, if it fits, and is shown
pub rows_fit : (l : List ℕ) (rows : List Row) (i : ℕ) (d : Row) → i < length rows → row_fits (get_or rows i d) ≡ true → fits_at (put_rows l rows) i ≡ true
unfolding fits_at
rows_fit l rows i d h e =
    let p = fits_packs (get_or rows i d) e in
    ap (fits_below (above_at (put_rows l rows) i)) (rows_at l rows i d h p)
    ∙ fits_first (get_or rows i d) (above_at (put_rows l rows) i) (above_none l rows i d h p) e

pub rows_shown : (l : List ℕ) (rows : List Row) (i : ℕ) (d : Row) → i < length rows → row_fits (get_or rows i d) ≡ true → shown_at (put_rows l rows) i ≡ Some (get_or rows i d)
rows_shown l rows i d h e =
    shown_fit (put_rows l rows) i (rows_fit l rows i d h e) ∙ ap Some (rows_at l rows i d h (fits_packs (get_or rows i d) e))
