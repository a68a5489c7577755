-- Document 01, "Records": a record is eight numbers of 32 bits, of which the first holds kind, detail and depth (`First`). Records stand one
-- after the other from the start of a list. Nothing outside this crate knows a record's numbers: it knows `Row`, and these names.
-- Assumes nothing.
use Rattle.std.specs.Prelude.{Bool, List, [], ◌∷◌, ◌++◌, ℕ, zero, suc, ◌+◌, ◌*◌, get_or, take, drop, Option}
use Rattle.rows.specs.First.{first_of, kind_in, detail_in, depth_in, above_in, fits_below, shown_below}
use Rattle.rows.specs.Store.{room_for, put_at, words_all, put_all, put_from}
use Rattle.rows.specs.declared.Row.{Row}

-- how many numbers a record has
abbrev pub row_words : ℕ
row_words = 8

-- how many records a list has room for
abbrev pub room : List ℕ → ℕ
room = room_for row_words

-- a record's numbers: kind, detail and depth, byte start, byte end, start line, start column, end line, end column, indent
abbrev pub words_of : Row → List ℕ
words_of r =
    first_of r
    ∷ r.start
    ∷ r.end
    ∷ r.start_line
    ∷ r.start_column
    ∷ r.end_line
    ∷ r.end_column
    ∷ r.indent
    ∷ []

-- the record whose numbers stand from a place of a list on
abbrev pub row_from : List ℕ → ℕ → Row
row_from list at =
    record {
      kind = kind_in (get_or list at 0);
      detail = detail_in (get_or list at 0);
      start = get_or list (at + 1) 0;
      end = get_or list (at + 2) 0;
      start_line = get_or list (at + 3) 0;
      start_column = get_or list (at + 4) 0;
      end_line = get_or list (at + 5) 0;
      end_column = get_or list (at + 6) 0;
      indent = get_or list (at + 7) 0;
      depth = depth_in (get_or list at 0);
    }

-- the record that the first eight numbers of a list are
unfoldable pub first_row : List ℕ → Row
first_row list = row_from list 0

-- record i of a list
unfoldable pub row_at : List ℕ → ℕ → Row
row_at list i = row_from list (row_words * i)

-- the first number of record i
abbrev pub first_at : List ℕ → ℕ → ℕ
first_at list i = get_or list (row_words * i) 0

-- a list in which record i is this one; every other number stays
unfoldable pub put_row : List ℕ → ℕ → Row → List ℕ
put_row list i row = put_at row_words list i (words_of row)

-- ---- many records

-- the numbers of some records, one after the other
unfoldable pub words_of_all : List Row → List ℕ
words_of_all = words_all words_of

-- a list that starts with these records; every number after them stays
unfoldable pub put_rows : List ℕ → List Row → List ℕ
put_rows = put_all row_words words_of

-- records put from record k on, one after the other
unfoldable pub put_rows_at : List ℕ → ℕ → List Row → List ℕ
put_rows_at = put_from row_words words_of

-- a list that starts with the first n records of another, word for word; every number after them stays
unfoldable pub copy_rows : ℕ → List ℕ → List ℕ → List ℕ
copy_rows n from to = take (row_words * n) from ++ drop (row_words * n) to

-- the first so many records of a list
unfoldable pub rows_of : ℕ → List ℕ → List Row
rows_of zero list = []
rows_of (suc n) list = first_row list ∷ rows_of n (drop row_words list)

-- ---- a record that may be shown

-- what stands above the depth in the first number of record i
abbrev pub above_at : List ℕ → ℕ → ℕ
above_at list i = above_in (first_at list i)

-- record i of a list may be shown: it has nothing above its depth, and it fits (else: refusal 9)
unfoldable pub fits_at : List ℕ → ℕ → Bool
fits_at list i = fits_below (above_at list i) (row_at list i)

-- record i of a list, if it may be shown
unfoldable pub shown_at : List ℕ → ℕ → Option Row
shown_at list i = shown_below (above_at list i) (row_at list i)
