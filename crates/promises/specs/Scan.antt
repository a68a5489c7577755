-- The promise of `scan::scan` and `scan::scan_half`, case by case in the documents' order: 1, 17, 2, 3 or 15, then the records of the source's reading,
-- as many as have room, with a status, or refusal 4 or 5. What they ensure is `ScansIn`, of a list with whole records and of one with records at half
-- the size.
-- Assumes nothing.
use Rattle.std.specs.Prelude.{ℕ, ◌<◌, ◌≤◌, ◌≡◌, true, false, List, length, take, Ok, Err}
use Rattle.base.specs.Refusal.{none, too_long, bad_edition, bad_table, bad_utf8, cut_utf8, list_full, modes_full, source_most}
use Rattle.utf8.specs.Meaning.{Arriving, Damaged}
use Rattle.fitness.specs.Fit.{table_check}
use Rattle.fitness.specs.declared.TableError.TheVariants.{BadTable}
use Rattle.input.specs.Input as input
use Rattle.rows.specs.declared.Row.{Row}
use Rattle.layout.specs.Layout.{room_in}
use Rattle.layout.specs.declared.Layout.{Layout}
use Rattle.reading.specs.Reading as reading
use Rattle.reading.specs.Scan.{end_of, reading_of, firsts_in, number_of, place_of, count_of}
use Rattle.reading.specs.Scan.{Scanned}
use Rattle.reading.specs.declared.Scan.TheVariants as answer
use Rattle.promises.specs.Said.{Said, says}

-- ---- what a scan says

-- how it ended; a refusal has no status
pub data Status : Type 0 where
  end : Status
  stuck : Status
  refused : Status

abbrev pub status_of : Scanned → Status
status_of (Ok (answer.End n b)) = end
status_of (Ok (answer.Stuck n b)) = stuck
status_of (Err e) = refused

-- the status, the count of records written, and the number and its place; the place is the current byte where there is no refusal
pub record ScanSaid : Type 0 where
  pub status : Status
  pub count : ℕ
  pub said : Said

abbrev pub scan_says : Scanned → ScanSaid
scan_says r = record { status = status_of r; count = count_of r; said = says (number_of r) (place_of r) }

-- no refusal: a status, a count and the current byte
abbrev pub ends : Status → ℕ → ℕ → ScanSaid
ends status count byte = record { status = status; count = count; said = says none byte }

-- a refusal: its number and place, and a count
abbrev pub refuses : ℕ → ℕ → ℕ → ScanSaid
refuses number place count = record { status = refused; count = count; said = says number place }

-- ---- the promise

-- refusals 1, 17, 2, 3 and 15 are not given
abbrev pub Readable : List ℕ → List ℕ → ℕ → Type 0
Readable source table edition = input.Readable source_most source table edition

-- the records of the source's reading, and why it stops
abbrev pub rows : List ℕ → List ℕ → ℕ → List Row
rows source table edition = (reading_of source table edition).rows

abbrev pub stop : List ℕ → List ℕ → ℕ → reading.Stop
stop source table edition = (reading_of source table edition).stop

-- the cases shut each other out, and leave nothing out. The current byte is where the last record that was written ends (0 where there is
-- none)
pub record ScanPromise (layout : Layout) (source table : List ℕ) (edition : ℕ) (old : List ℕ) (r : Scanned) (new : List ℕ) : Type 0 where
  -- 1, 17, 2, 3, 15: no record, and the list stays
  pub too_long_lem : source_most < length source → (scan_says r ≡ refuses too_long 0 0) × (new ≡ old)
  pub bad_edition_lem : length source ≤ source_most → input.is_edition edition ≡ false → (scan_says r ≡ refuses bad_edition 0 0) × (new ≡ old)
  pub bad_table_lem : length source ≤ source_most → input.is_edition edition ≡ true → (i : ℕ) → table_check table ≡ Err (BadTable i)
      → (scan_says r ≡ refuses bad_table i 0) × (new ≡ old)
  pub bad_utf8_lem : length source ≤ source_most → input.is_edition edition ≡ true → table_check table ≡ Ok tt → (n : ℕ) → Damaged source n
      → (scan_says r ≡ refuses bad_utf8 n 0) × (new ≡ old)
  pub cut_utf8_lem : length source ≤ source_most → input.is_edition edition ≡ true → table_check table ≡ Ok tt → (n : ℕ) → Arriving source n
      → (scan_says r ≡ refuses cut_utf8 n 0) × (new ≡ old)
  -- all records have room, and the Rust would answer None
  pub ended : Readable source table edition → stop source table edition ≡ reading.ended → length (rows source table edition) ≤ room_in layout old
      → scan_says r ≡ ends end (length (rows source table edition)) (end_of 0 (rows source table edition))
  -- all records have room, and the last is an Error that advanced nothing
  pub is_stuck : Readable source table edition → stop source table edition ≡ reading.stuck → length (rows source table edition) ≤ room_in layout old
      → scan_says r ≡ ends stuck (length (rows source table edition)) (end_of 0 (rows source table edition))
  -- 4: a token is left to read, and its record has no room
  pub list_full_lem : Readable source table edition → room_in layout old < length (rows source table edition)
      → scan_says r ≡ refuses list_full (end_of 0 (take (room_in layout old) (rows source table edition))) (room_in layout old)
  -- 4 comes before 5, where the token that is left would push a 65th mode
  pub full_before_deep : Readable source table edition → stop source table edition ≡ reading.deep → length (rows source table edition) ≡ room_in layout old
      → scan_says r ≡ refuses list_full (end_of 0 (rows source table edition)) (room_in layout old)
  -- 5: that token's record has room
  pub modes_full_lem : Readable source table edition → stop source table edition ≡ reading.deep → length (rows source table edition) < room_in layout old
      → scan_says r ≡ refuses modes_full (end_of 0 (rows source table edition)) (length (rows source table edition))
  -- every word: the records that have room, and then what was there before
  pub words : Readable source table edition → new ≡ firsts_in layout old (room_in layout old) (reading_of source table edition)
  -- 3 and 15 are given nowhere else
  pub only_bad : number_of r ≡ bad_utf8 → Damaged source (place_of r)
  pub only_cut : number_of r ≡ cut_utf8 → Arriving source (place_of r)
