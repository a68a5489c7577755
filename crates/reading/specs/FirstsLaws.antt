-- A list that starts with the first n records of a source's reading, in either layout: what is read back of it.
--     firsts_all      where so many have room, these are all records
--     firsts_room     the list's room stays
--     firsts_rest     and so does every word past them
--     firsts_row      each record is the reading's
--     firsts_shown    and is shown, where a cursor counts as many as there are
-- Assumes nothing.
use Rattle.std.specs.Prelude.{ℕ, ◌+◌, ◌*◌, ◌≤◌, ◌<◌, ◌≡◌, true, false, List, length, get_or, take, drop, Some}
use Rattle.std.proofs.Common.{arith, sym, ap, subst, ◌∙◌, take_all, length-take-le, get_or-take}
use Rattle.base.specs.PickLaws.{split_lt}
use Rattle.property.specs.Table.{properties_at}
use Rattle.fitness.specs.Fit.{FitTable}
use Rattle.token.specs.Kind.{error}
use Rattle.rows.specs.First.{row_fits}
use Rattle.rows.specs.FirstLaws.{fits_packs}
use Rattle.rows.specs.Row.{put_rows}
use Rattle.rows.specs.RowLaws as rows
use Rattle.rows.specs.declared.Row.{Row}
use Rattle.half_rows.specs.Half.{Marked, marked, put_halves, no_edge, Starts}
use Rattle.half_rows.specs.HalfLaws as half
use Rattle.layout.specs.Layout.{words_in, room_in, row_in, shown_in}
use Rattle.layout.specs.declared.Layout.{Layout}
use Rattle.layout.specs.declared.Layout.TheVariants.{Whole, Half}
use Rattle.state.specs.State.{start_state}
use Rattle.stepping.specs.Invariant.{Ok}
use Rattle.reading.specs.Reading.{Reading}
use Rattle.reading.specs.Scan.{marked_rows, reading_of, firsts_in, holds_in}
use Rattle.reading.specs.ShownLaws.{reading_shown}
use Rattle.reading.specs.StartsLaws.{marks_length, marks_at, marks_last, stuck_error, reading_starts}

-- ---- the first n of some

in_take : {A : Type 0} (n i : ℕ) (xs : List A) → i < n → i < length xs → i < length (take n xs)
in_take n i xs h k =
    split_lt n (length xs) (λ l. omega (arith, length-take-le n xs (omega arith))) (λ l. omega (arith, ap length (take_all n xs l)))

take_most : {A : Type 0} (n m : ℕ) (xs : List A) → n ≤ m → length (take n xs) ≤ m
take_most n m xs h =
    split_lt n (length xs) (λ l. omega (arith, length-take-le n xs (omega arith))) (λ l. omega (arith, ap length (take_all n xs l)))

-- lists of one length have as many
same_take : {A B : Type 0} (n : ℕ) (xs : List A) (ys : List B) → length xs ≡ length ys → length (take n xs) ≡ length (take n ys)
same_take n xs ys e =
    split_lt n (length xs)
    (λ l. length-take-le n xs (omega arith) ∙ sym (length-take-le n ys (omega arith)))
    (λ l. ap length (take_all n xs l) ∙ e ∙ sym (ap length (take_all n ys (omega arith))))

-- ---- of any reading

pub firsts_all : (layout : Layout) (old : List ℕ) (n : ℕ) (q : Reading) → length q.rows ≤ n → firsts_in layout old n q ≡ holds_in layout old q
firsts_all Whole old n q h = ap (put_rows old) (take_all n q.rows h)
firsts_all Half old n q h = ap (put_halves old) (take_all n (marked_rows q) (omega (arith, marks_length q.stop q.rows)))

pub firsts_room : (layout : Layout) (old : List ℕ) (n : ℕ) (q : Reading) → n ≤ room_in layout old → room_in layout (firsts_in layout old n q) ≡ room_in layout old
firsts_room Whole old n q h = rows.rows_room old (take n q.rows) (take_most n (room_in Whole old) q.rows h)
firsts_room Half old n q h = half.halves_room old (take n (marked_rows q)) (take_most n (room_in Half old) (marked_rows q) h)

pub firsts_rest : (layout : Layout) (old : List ℕ) (n : ℕ) (q : Reading)
    → drop (words_in layout * length (take n q.rows)) (firsts_in layout old n q) ≡ drop (words_in layout * length (take n q.rows)) old
firsts_rest Whole old n q = rows.rows_rest old (take n q.rows)
firsts_rest Half old n q =
    let e : length (take n (marked_rows q)) ≡ length (take n q.rows) = same_take n (marked_rows q) q.rows (marks_length q.stop q.rows) in
    subst (λ (k : ℕ). drop (words_in Half * k) (firsts_in Half old n q) ≡ drop (words_in Half * k) old) e (half.halves_rest old (take n (marked_rows q)))

-- ---- of a source's

module _ (s table : List ℕ) (edition : ℕ) (fit : FitTable table) (ok : Ok s start_state) where
  abbrev q : Reading
  q = reading_of s table edition

  module _ (old : List ℕ) (n i : ℕ) (d : Row) (h : i < n) (k : i < length q.rows) where
    -- record i, and with its mark
    row_is : get_or (take n q.rows) i d ≡ get_or q.rows i d
    row_is = get_or-take n q.rows i d h

    abbrev mark : Marked
    mark = marked d false

    marked_is : get_or (take n (marked_rows q)) i mark ≡ get_or (marked_rows q) i mark
    marked_is = get_or-take n (marked_rows q) i mark h

    marked_row : (get_or (take n (marked_rows q)) i mark).row ≡ get_or q.rows i d
    marked_row = ap (λ (m : Marked). m.row) marked_is ∙ marks_at q.stop q.rows i mark k

    in_marked : i < length (take n (marked_rows q))
    in_marked = in_take n i (marked_rows q) h (omega (arith, marks_length q.stop q.rows))

    fits : row_fits (get_or q.rows i d) ≡ true
    fits = reading_shown s table edition fit start_state ok i d k

    marked_fits : row_fits (get_or (take n (marked_rows q)) i mark).row ≡ true
    marked_fits = ap row_fits marked_row ∙ fits

    starts : Starts no_edge no_edge (take n (marked_rows q))
    starts = half.starts_some n no_edge no_edge (marked_rows q) (reading_starts s table edition fit start_state ok)

    pub firsts_row : (layout : Layout) → row_in layout (firsts_in layout old n q) i ≡ get_or q.rows i d
    firsts_row Whole =
        rows.rows_at old (take n q.rows) i d (in_take n i q.rows h k) (fits_packs (get_or (take n q.rows) i d) (ap row_fits row_is ∙ fits)) ∙ row_is
    firsts_row Half =
        half.halves_at old (take n (marked_rows q)) mark i in_marked (fits_packs (get_or (take n (marked_rows q)) i mark).row marked_fits) starts ∙ marked_row

    pub firsts_shown : (count : ℕ) → i < count → count ≤ length q.rows → (layout : Layout)
        → shown_in layout (firsts_in layout old n q) count i ≡ Some (get_or q.rows i d)
    firsts_shown count l m Whole =
        rows.rows_shown old (take n q.rows) i d (in_take n i q.rows h k) (ap row_fits row_is ∙ fits) ∙ ap Some row_is
    firsts_shown count l m Half =
        half.halves_shown old (take n (marked_rows q)) mark count i in_marked marked_fits
        (λ e. let last = marks_last q.stop q.rows i mark k (ap (λ (x : Marked). x.still) (sym marked_is) ∙ e) in (
          ap (λ (r : Row). r.kind) marked_row ∙ stuck_error (properties_at table) edition s start_state i d last.0 last.1,
          omega (arith, last.1),
        )) starts
        ∙ ap Some marked_row
