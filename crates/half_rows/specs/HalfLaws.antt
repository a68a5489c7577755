-- Records at half the size, written and read back.
--     put_by_stores                          five stores, one after the other, put a record
--     put_length, put_room                   putting a record changes neither the list's length nor its room
--     halves_none, halves_length, halves_room, halves_rest    what putting many leaves of the list
--     halves_one_by_one, puts_none, puts_next    putting many one by one, from the first on
--     starts_some                            of records whose starts may be left out, the first so many
--     halves_at                              each of many is read back, its start and span too
--     before_some, depth_below, shown_marked, shown_plain    for the code
--     shown_fit, shown_unfit                 what is shown at an index, by the test
--     halves_shown                           a record that was put and may be shown is shown
-- Assumes nothing.
use Rattle.std.specs.Prelude.{◌≡◌, Bool, true, false, ℕ, zero, suc, ◌+◌, ◌*◌, ◌-◌, ◌%◌, ◌≤◌, ◌<◌, eqb, length, take, drop, Option, Some, None}
use Rattle.std.proofs.Math.Path.{refl, sym, ap}
use Rattle.std.proofs.Common.{◌∙◌, add-zero, get_or-drop, eq-eqb}
use mathlib.Core.List.{List, [], ◌∷◌, ◌++◌}
use native.Mathlib.Omega.{arith}
use Rattle.std.proofs.Math.ListN.{get_or}
use Rattle.std.proofs.lemmas.List.Edits.{sets}
use Rattle.base.specs.Pick.{pick}
use Rattle.token.specs.Kind.{error}
use Rattle.rows.specs.First.{above_unit, Packs, kind_in, detail_in, depth_in, above_in, row_fits, fits_below, shown_below}
use Rattle.rows.specs.FirstLaws.{kind_back, detail_back, depth_back, above_back, fits_packs, fits_first, below_fit, below_unfit}
use Rattle.rows.specs.Store.{words_all}
use Rattle.rows.specs.StoreLaws as store
use Rattle.rows.specs.declared.Row.{Row}
use Rattle.half_rows.specs.Half.{half_words, room, Marked, mark_of, marked_first, words_of, put_half, put_halves, put_halves_at, start_edge, end_edge, no_edge, Starts}
use Rattle.half_rows.specs.Half.{first_at, is_marked, end_before, start_at, row_at, may_stand, above_at, fits_at, shown_at}
use Rattle.half_rows.specs.declared.Edge.{Edge}

-- ---- one record put

-- each has five numbers
five : (m : Marked) → length (words_of m) ≡ half_words
five m = refl

module _ (l : List ℕ) (i : ℕ) (m : Marked) (h : i < room l) where
  pub put_by_stores : sets l (half_words * i) (words_of m) ≡ put_half l i m
  unfolding put_half
  put_by_stores = store.put_by_stores half_words l i (words_of m) refl h

  pub put_length : length (put_half l i m) ≡ length l
  unfolding put_half
  put_length = store.put_length half_words l i (words_of m) refl h

  pub put_room : room (put_half l i m) ≡ room l
  unfolding put_half
  put_room = store.put_room half_words l i (words_of m) refl h

-- ---- many records put

pub halves_none : (l : List ℕ) → put_halves l [] ≡ l
unfolding put_halves
halves_none = store.all_none half_words words_of

module _ (l : List ℕ) (ms : List Marked) where
  pub halves_rest : drop (half_words * length ms) (put_halves l ms) ≡ drop (half_words * length ms) l
  unfolding put_halves
  halves_rest = store.all_rest half_words words_of five l ms

  pub halves_length : length ms ≤ room l → length (put_halves l ms) ≡ length l
  unfolding put_halves
  halves_length = store.all_length half_words words_of five l ms

  pub halves_room : length ms ≤ room l → room (put_halves l ms) ≡ room l
  unfolding put_halves
  halves_room = store.all_room half_words words_of five l ms

pub puts_none : (l : List ℕ) (k : ℕ) → put_halves_at l k [] ≡ l
unfolding put_halves_at
puts_none l k = refl

pub puts_next : (l : List ℕ) (k : ℕ) (m : Marked) (ms : List Marked) → put_halves_at l k (m ∷ ms) ≡ put_halves_at (put_half l k m) (k + 1) ms
unfolding put_halves_at put_half
puts_next l k m ms = refl

pub halves_one_by_one : (l : List ℕ) (ms : List Marked) → put_halves_at l 0 ms ≡ put_halves l ms
unfolding put_halves_at put_halves
halves_one_by_one = store.one_by_one half_words words_of five

-- ---- where they start

-- where each of some ends
abbrev ends : List Marked → List Edge
ends [] = []
ends (m ∷ ms) = end_edge m.row ∷ ends ms

ends_at : (ms : List Marked) (i : ℕ) (d : Marked) → i < length ms → get_or (ends ms) i no_edge ≡ end_edge (get_or ms i d).row
ends_at [] i d h = absurd (omega arith)
ends_at (m ∷ ms) zero d h = refl
ends_at (m ∷ ms) (suc i) d h = ends_at ms i d (omega arith)

starts_at : (before last : Edge) (ms : List Marked) (i : ℕ) (d : Marked) → Starts before last ms → i < length ms
    → start_edge (get_or ms i d).row
    ≡ pick (get_or ms i d).still (get_or (before ∷ last ∷ ends ms) i no_edge) (get_or (before ∷ last ∷ ends ms) (suc i) no_edge)
unfolding Starts
starts_at before last [] i d s h = absurd (omega arith)
starts_at before last (m ∷ ms) zero d s h = s.0
starts_at before last (m ∷ ms) (suc i) d s h = starts_at last (end_edge m.row) ms i d s.1 (omega arith)

pub starts_some : (n : ℕ) (before last : Edge) (ms : List Marked) → Starts before last ms → Starts before last (take n ms)
unfolding Starts
starts_some zero before last ms s = tt
starts_some (suc n) before last [] s = tt
starts_some (suc n) before last (m ∷ ms) s = (s.0, starts_some n last (end_edge m.row) ms s.1)

-- ---- each is read back

module _ (l : List ℕ) (ms : List Marked) (d : Marked) where
  -- number k of record i
  number_at : (i : ℕ) → i < length ms → (k : ℕ)
      → get_or (put_halves l ms) (half_words * i + k) 0
      ≡ get_or (words_of (get_or ms i d) ++ (words_all words_of (drop (suc i) ms) ++ drop (half_words * length ms) l)) k 0
  unfolding put_halves
  number_at i h k = sym (get_or-drop (half_words * i) (put_halves l ms) k 0) ∙ ap (λ (n : List ℕ). get_or n k 0) (store.all_there half_words words_of five l ms i d h)

  first_at_lem : (i : ℕ) → i < length ms → first_at (put_halves l ms) i ≡ marked_first (get_or ms i d)
  first_at_lem i h = rw (add-zero (half_words * i)) at (number_at i h 0)

  before_at : (i : ℕ) → i ≤ length ms → end_before (put_halves l ms) i ≡ get_or (no_edge ∷ ends ms) i no_edge
  before_at zero h = refl
  before_at (suc i) h =
      let lt : i < length ms = omega arith in
      (λ j. record { byte = number_at i lt 1 j; line = number_at i lt 2 j; column = number_at i lt 3 j }) ∙ sym (ends_at ms i d lt)

  -- the end of the one before that
  twice_before : (i : ℕ) → i ≤ length ms → end_before (put_halves l ms) (i - 1) ≡ get_or (no_edge ∷ no_edge ∷ ends ms) i no_edge
  twice_before zero h = refl
  twice_before (suc i) h =
      let e : suc i - 1 ≡ i = omega arith in ap (end_before (put_halves l ms)) e ∙ before_at i (omega arith)

  module _ (i : ℕ) (h : i < length ms) (p : Packs (get_or ms i d).row) where
    above_at_lem : above_in (first_at (put_halves l ms) i) ≡ mark_of (get_or ms i d).still
    above_at_lem = ap above_in (first_at_lem i h) ∙ above_back (get_or ms i d).row p (marked_first (get_or ms i d)) (mark_of (get_or ms i d).still) refl

    marked_at : is_marked (put_halves l ms) i ≡ (get_or ms i d).still
    marked_at = ap (λ (n : ℕ). eqb n 1) above_at_lem ∙ go (get_or ms i d).still
      where
        go : (t : Bool) → eqb (mark_of t) 1 ≡ t
        go true = refl
        go false = refl

    start_at_lem : Starts no_edge no_edge ms → start_at (put_halves l ms) i ≡ start_edge (get_or ms i d).row
    start_at_lem s =
        ap (λ (t : Bool). end_before (put_halves l ms) (pick t (i - 1) i)) marked_at
        ∙ go (get_or ms i d).still
        ∙ sym (starts_at no_edge no_edge ms i d s h)
      where
        go : (t : Bool) → end_before (put_halves l ms) (pick t (i - 1) i)
            ≡ pick t (get_or (no_edge ∷ no_edge ∷ ends ms) i no_edge) (get_or (no_edge ∷ no_edge ∷ ends ms) (suc i) no_edge)
        go true = twice_before i (omega arith)
        go false = before_at i (omega arith)

    pub halves_at : Starts no_edge no_edge ms → row_at (put_halves l ms) i ≡ (get_or ms i d).row
    unfolding row_at
    halves_at s =
        let row = (get_or ms i d).row in
        let first = marked_first (get_or ms i d) in
        let mark = mark_of (get_or ms i d).still in
        let e = start_at_lem s in
        let k : kind_in (first_at (put_halves l ms) i) ≡ row.kind = ap kind_in (first_at_lem i h) ∙ kind_back row p first mark refl in
        let n : detail_in (first_at (put_halves l ms) i) ≡ row.detail = ap detail_in (first_at_lem i h) ∙ detail_back row p first mark refl in
        let m : depth_in (first_at (put_halves l ms) i) ≡ row.depth = ap depth_in (first_at_lem i h) ∙ depth_back row p first mark refl in
        λ j. record {
          kind = k j;
          detail = n j;
          start = (e j).byte;
          end = number_at i h 1 j;
          start_line = (e j).line;
          start_column = (e j).column;
          end_line = number_at i h 2 j;
          end_column = number_at i h 3 j;
          indent = number_at i h 4 j;
          depth = m j;
        }

-- ---- what may be shown

pub shown_fit : (l : List ℕ) (count i : ℕ) → fits_at l count i ≡ true → shown_at l count i ≡ Some (row_at l i)
unfolding shown_at fits_at
shown_fit l count i e = below_fit (above_at l count i) (row_at l i) e

pub shown_unfit : (l : List ℕ) (count i : ℕ) → fits_at l count i ≡ false → shown_at l count i ≡ None
unfolding shown_at fits_at
shown_unfit l count i e = below_unfit (above_at l count i) (row_at l i) e

-- a record that was put has nothing above its depth that may not stand there, if it has the mark only as a last Error
module _ (l : List ℕ) (ms : List Marked) (d : Marked) (count i : ℕ) (h : i < length ms) (f : row_fits (get_or ms i d).row ≡ true)
    (last : (get_or ms i d).still ≡ true → ((get_or ms i d).row.kind ≡ error) × (i + 1 ≡ count)) where
  above_none : above_at (put_halves l ms) count i ≡ 0
  above_none = go (get_or ms i d).still refl
    where
      p : Packs (get_or ms i d).row
      p = fits_packs (get_or ms i d).row f

      above : above_in (first_at (put_halves l ms) i) ≡ mark_of (get_or ms i d).still
      above = above_at_lem l ms d i h p

      kind : kind_in (first_at (put_halves l ms) i) ≡ (get_or ms i d).row.kind
      kind = ap kind_in (first_at_lem l ms d i h) ∙ kind_back (get_or ms i d).row p (marked_first (get_or ms i d)) (mark_of (get_or ms i d).still) refl

      go : (t : Bool) → (get_or ms i d).still ≡ t → above_at (put_halves l ms) count i ≡ 0
      go true e =
          let a : above_in (first_at (put_halves l ms) i) ≡ 1 = above ∙ ap mark_of e in
          let b = last e in
          rw (eq-eqb (above_in (first_at (put_halves l ms) i)) 1 a, eq-eqb (kind_in (first_at (put_halves l ms) i)) error (kind ∙ b.0), eq-eqb (i + 1) count b.1)
      go false e = let a : above_in (first_at (put_halves l ms) i) ≡ 0 = above ∙ ap mark_of e in rw a

  pub halves_fit : Starts no_edge no_edge ms → fits_at (put_halves l ms) count i ≡ true
  unfolding fits_at
  halves_fit s =
      ap (fits_below (above_at (put_halves l ms) count i)) (halves_at l ms d i h (fits_packs (get_or ms i d).row f) s)
      ∙ fits_first (get_or ms i d).row (above_at (put_halves l ms) count i) above_none f

  pub halves_shown : Starts no_edge no_edge ms → shown_at (put_halves l ms) count i ≡ Some (get_or ms i d).row
  halves_shown s =
      shown_fit (put_halves l ms) count i (halves_fit s) ∙ ap Some (halves_at l ms d i h (fits_packs (get_or ms i d).row f) s)

-- ---- for the code

pub before_some : (l : List ℕ) (i : ℕ) → (i ≡ 0 → ⊥)
    → record { byte = get_or l (half_words * (i - 1) + 1) 0; line = get_or l (half_words * (i - 1) + 2) 0; column = get_or l (half_words * (i - 1) + 3) 0 } ≡ end_before l i
before_some l zero n = absurd (n refl)
before_some l (suc i) n = let e : suc i - 1 ≡ i = omega arith in rw e

pub depth_below : (first : ℕ) → depth_in first ≡ depth_in (first % above_unit)
depth_below first = omega arith

module _ (l : List ℕ) (count i : ℕ) {row : Row} {v : Option Row} (e : row ≡ row_at l i) where
  -- without the mark, where it may stand
  pub shown_marked : may_stand (first_at l i) (eqb (i + 1) count) ≡ true → v ≡ shown_below (above_in (first_at l i % above_unit)) row → v ≡ shown_at l count i
  unfolding shown_at
  shown_marked t p =
      let z : above_in (first_at l i % above_unit) ≡ 0 = omega arith in
      p ∙ (λ j. shown_below (z j) (e j)) ∙ sym (ap (λ (b : Bool). shown_below (pick b 0 (above_in (first_at l i))) (row_at l i)) t)

  pub shown_plain : may_stand (first_at l i) (eqb (i + 1) count) ≡ false → v ≡ shown_below (above_in (first_at l i)) row → v ≡ shown_at l count i
  unfolding shown_at
  shown_plain t p =
      p ∙ ap (shown_below (above_in (first_at l i))) e ∙ sym (ap (λ (b : Bool). shown_below (pick b 0 (above_in (first_at l i))) (row_at l i)) t)
