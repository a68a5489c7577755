-- What the list program answers and writes (document 01, "Scripts and format strings to try"): a scan with the small table, in edition 2, of a
-- source of at most 1,024 bytes.
-- Assumes nothing.
use Rattle.std.specs.Prelude.{ℕ, ◌≡◌, List, [], Err, ltb, length}
use Rattle.base.specs.Pick.{pick}
use Rattle.fitness.specs.Small.{small_table}
use Rattle.input.specs.Input.{with_gb9c}
use Rattle.input.specs.declared.Refusal.TheVariants.{TooLong}
use Rattle.rows.specs.Row.{room, put_rows}
use Rattle.rows.specs.declared.Row.{Row}
use Rattle.reading.specs.Scan.{scanned, written}
use Rattle.reading.specs.Scan.{Scanned}
use Rattle.reading.specs.declared.ScanError.TheVariants.{Refused}

-- the most bytes that the list program takes
abbrev pub list_most : ℕ
list_most = 1024

-- the answer for the bytes of a source and a list's room
unfoldable pub listed : List ℕ → ℕ → Scanned
listed source n = pick (ltb list_most (length source)) (Err (Refused TooLong)) (scanned source small_table with_gb9c n)

-- the records that are written: none of a source that is too long
unfoldable pub listed_rows : List ℕ → ℕ → List Row
listed_rows source n = pick (ltb list_most (length source)) [] (written source small_table with_gb9c n)

-- what the list program's scan ensures: its answer, and every word of the list, the records and then what was there before
pub record Lists (source old : List ℕ) (r : Scanned) (new : List ℕ) : Type 0 where
  pub answer : r ≡ listed source (room old)
  pub words : new ≡ put_rows old (listed_rows source (room old))
