-- The two layouts of a list: records of eight numbers (document 01, "Records"), and of five (document 02, C-5). What is asked of a list in
-- either of them.
-- Assumes nothing.
use Rattle.std.specs.Prelude.{Bool, List, ℕ, Option}
use Rattle.rows.specs.Row as rows
use Rattle.rows.specs.declared.Row.{Row}
use Rattle.half_rows.specs.Half as half
use Rattle.half_rows.specs.Half.{Marked}
use Rattle.layout.specs.declared.Layout.{Layout}
use Rattle.layout.specs.declared.Layout.TheVariants.{Whole, Half}

-- how many numbers a record has
abbrev pub words_in : Layout → ℕ
words_in Whole = rows.row_words
words_in Half = half.half_words

-- how many records a list has room for
abbrev pub room_in : Layout → List ℕ → ℕ
room_in Whole = rows.room
room_in Half = half.room

-- a list in which record i is this one, where the layout tells whether it stands still; every other number stays
abbrev pub put_in : Layout → List ℕ → ℕ → Marked → List ℕ
put_in Whole list i m = rows.put_row list i m.row
put_in Half list i m = half.put_half list i m

-- record i of a list
abbrev pub row_in : Layout → List ℕ → ℕ → Row
row_in Whole = rows.row_at
row_in Half = half.row_at

-- record i of so many may be shown (else: refusal 9); only a half list asks how many there are
abbrev pub fits_in : Layout → List ℕ → ℕ → ℕ → Bool
fits_in Whole list count = rows.fits_at list
fits_in Half list count = half.fits_at list count

-- record i of so many, if it may be shown
abbrev pub shown_in : Layout → List ℕ → ℕ → ℕ → Option Row
shown_in Whole list count = rows.shown_at list
shown_in Half list count = half.shown_at list count
