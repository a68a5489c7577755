-- What holds of a list in either layout.
--     put_length, put_room       putting a record changes neither the list's length nor its room
--     shown_fit, shown_unfit     what is shown at an index, by the test
-- Assumes nothing.
use Rattle.std.specs.Prelude.{◌≡◌, true, false, List, ℕ, ◌<◌, length, Some, None}
use Rattle.rows.specs.RowLaws as rows
use Rattle.half_rows.specs.Half.{Marked}
use Rattle.half_rows.specs.HalfLaws as half
use Rattle.layout.specs.Layout.{room_in, put_in, row_in, fits_in, shown_in}
use Rattle.layout.specs.declared.Layout.{Layout}
use Rattle.layout.specs.declared.Layout.TheVariants.{Whole, Half}

pub put_length : (layout : Layout) (l : List ℕ) (i : ℕ) (m : Marked) → i < room_in layout l → length (put_in layout l i m) ≡ length l
put_length Whole l i m h = rows.put_length l i m.row h
put_length Half l i m h = half.put_length l i m h

pub put_room : (layout : Layout) (l : List ℕ) (i : ℕ) (m : Marked) → i < room_in layout l → room_in layout (put_in layout l i m) ≡ room_in layout l
put_room Whole l i m h = rows.put_room l i m.row h
put_room Half l i m h = half.put_room l i m h

pub shown_fit : (layout : Layout) (l : List ℕ) (count i : ℕ) → fits_in layout l count i ≡ true → shown_in layout l count i ≡ Some (row_in layout l i)
shown_fit Whole l count i e = rows.shown_fit l i e
shown_fit Half l count i e = half.shown_fit l count i e

pub shown_unfit : (layout : Layout) (l : List ℕ) (count i : ℕ) → fits_in layout l count i ≡ false → shown_in layout l count i ≡ None
shown_unfit Whole l count i e = rows.shown_unfit l i e
shown_unfit Half l count i e = half.shown_unfit l count i e
