-- Document 02, C-5, "Records at half the size": a record is five numbers of 32 bits: the first number, with bit 28 for an Error that stands still,
-- byte end, end line, end column and indent. Records stand one after the other from the start of a list. A record starts where the one before
-- it ends (0, 0, 0 for the first), and one with the mark where the one before it starts: where the one before that ends. Whether the one before
-- it has the mark is not asked.
-- Assumes nothing.
use Rattle.std.specs.Prelude.{◌≡◌, Bool, true, false, ◌&&◌, List, [], ◌∷◌, ℕ, zero, suc, ◌+◌, ◌*◌, ◌-◌, eqb, get_or, Option}
use Rattle.base.specs.Pick.{pick}
use Rattle.token.specs.Kind.{error}
use Rattle.rows.specs.First.{above_unit, first_of, kind_in, detail_in, depth_in, above_in, fits_below, shown_below}
use Rattle.rows.specs.Store.{room_for, put_at, put_all, put_from}
use Rattle.rows.specs.declared.Row.{Row}
use Rattle.half_rows.specs.declared.Edge.{Edge}

-- how many numbers a record has
abbrev pub half_words : ℕ
half_words = 5

-- how many records a list has room for
abbrev pub room : List ℕ → ℕ
room = room_for half_words

-- ---- records that are put

-- a record, and whether it is an Error that stands still
pub record Marked : Type 0 where
  pub row : Row
  pub still : Bool

abbrev pub marked : Row → Bool → Marked
marked row still = record { row = row; still = still }

-- what the mark adds above the depth: bit 28
abbrev pub mark_of : Bool → ℕ
mark_of true = 1
mark_of false = 0

-- the first number with the mark
abbrev pub marked_first : Marked → ℕ
marked_first m = first_of m.row + above_unit * mark_of m.still

-- a record's numbers
abbrev pub words_of : Marked → List ℕ
words_of m = marked_first m ∷ m.row.end ∷ m.row.end_line ∷ m.row.end_column ∷ m.row.indent ∷ []

-- a list in which record i is this one; every other number stays
unfoldable pub put_half : List ℕ → ℕ → Marked → List ℕ
put_half list i m = put_at half_words list i (words_of m)

-- a list that starts with these records; every number after them stays
unfoldable pub put_halves : List ℕ → List Marked → List ℕ
put_halves = put_all half_words words_of

-- records put from record k on, one after the other
unfoldable pub put_halves_at : List ℕ → ℕ → List Marked → List ℕ
put_halves_at = put_from half_words words_of

-- ---- where a record starts and ends

abbrev pub start_edge : Row → Edge
start_edge r = record { byte = r.start; line = r.start_line; column = r.start_column }

abbrev pub end_edge : Row → Edge
end_edge r = record { byte = r.end; line = r.end_line; column = r.end_column }

abbrev pub no_edge : Edge
no_edge = record { byte = 0; line = 0; column = 0 }

-- records whose starts may be left out, where the one before them ends at `last` and the one before that at `before`
unfoldable pub Starts : Edge → Edge → List Marked → Type 0
Starts before last [] = Unit {0}
Starts before last (m ∷ ms) = (start_edge m.row ≡ pick m.still before last) × Starts last (end_edge m.row) ms

-- ---- record i of a list

-- its first number
abbrev pub first_at : List ℕ → ℕ → ℕ
first_at list i = get_or list (half_words * i) 0

-- it has the mark, and nothing above it
abbrev pub is_marked : List ℕ → ℕ → Bool
is_marked list i = eqb (above_in (first_at list i)) 1

-- where the record before it ends; zeros where there is none
abbrev pub end_before : List ℕ → ℕ → Edge
end_before list zero = no_edge
end_before list (suc i) =
    record { byte = get_or list (half_words * i + 1) 0; line = get_or list (half_words * i + 2) 0; column = get_or list (half_words * i + 3) 0 }

-- where it starts
abbrev pub start_at : List ℕ → ℕ → Edge
start_at list i = end_before list (pick (is_marked list i) (i - 1) i)

-- the record
unfoldable pub row_at : List ℕ → ℕ → Row
row_at list i =
    record {
      kind = kind_in (first_at list i);
      detail = detail_in (first_at list i);
      start = (start_at list i).byte;
      end = get_or list (half_words * i + 1) 0;
      start_line = (start_at list i).line;
      start_column = (start_at list i).column;
      end_line = get_or list (half_words * i + 2) 0;
      end_column = get_or list (half_words * i + 3) 0;
      indent = get_or list (half_words * i + 4) 0;
      depth = depth_in (first_at list i);
    }

-- ---- a record that may be shown

-- a first number has the mark and may have it: on an Error that is the last record
abbrev pub may_stand : ℕ → Bool → Bool
may_stand first last = eqb (above_in first) 1 && (eqb (kind_in first) error && last)

-- what stands above the depth of record i and may not, in a list with so many records
abbrev pub above_at : List ℕ → ℕ → ℕ → ℕ
above_at list count i = pick (may_stand (first_at list i) (eqb (i + 1) count)) 0 (above_in (first_at list i))

-- record i of so many may be shown (else: refusal 9)
unfoldable pub fits_at : List ℕ → ℕ → ℕ → Bool
fits_at list count i = fits_below (above_at list count i) (row_at list i)

-- record i of so many, if it may be shown
unfoldable pub shown_at : List ℕ → ℕ → ℕ → Option Row
shown_at list count i = shown_below (above_at list count i) (row_at list i)
