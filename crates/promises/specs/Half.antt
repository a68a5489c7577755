-- "Records at half the size" (document 02, C-5): both layouts are readable as the same list, for every source, table, edition and list, whatever a
-- scan answers. The promise of `scan::scan_half` by itself is `ScanPromise`; this is what it has to do with `scan::scan`.
-- Assumes nothing.
use Rattle.std.specs.Prelude.{ℕ, ◌*◌, ◌<◌, ◌≡◌, List, drop}
use Rattle.layout.specs.Layout.{words_in, room_in, row_in}
use Rattle.layout.specs.declared.Layout.TheVariants.{Whole, Half}
use Rattle.reading.specs.Scan.{Scans, ScansIn, count_of}
use Rattle.reading.specs.Scan.{Scanned}
use Rattle.cursor.specs.declared.Cursor.{Cursor}
use Rattle.promises.specs.Lookahead.{NextEnsures, PeekEnsures}
use Rattle.promises.specs.Look.{LookAheadEnsures}
use Rattle.lookahead.specs.Next.{Given}
use Rattle.lookahead.specs.Peek.{Peeked}

-- a scan into whole records that answers r and leaves `new` of `old`, and one of the same input into half records that answers q and leaves `other`
-- of `half`, where the two lists have room for as many
pub record BothScan (source table : List ℕ) (edition : ℕ) (old half : List ℕ) (r q : Scanned) (new other : List ℕ) : Type 0 where
  pub same_room : room_in Whole old ≡ room_in Half half
  pub whole : Scans source table edition old r new
  pub halves : ScansIn Half source table edition half q other

pub record HalfPromise (half : List ℕ) (r q : Scanned) (new other : List ℕ) : Type 0 where
  pub same_answer : q ≡ r
  -- each record, its start and span too
  pub same_records : (i : ℕ) → i < count_of r → row_in Half other i ≡ row_in Whole new i
  -- every word past them
  pub stays : drop (words_in Half * count_of r) other ≡ drop (words_in Half * count_of r) half
  -- whatever a cursor over them has taken and queued
  pub same_next : (c : Cursor) → c.count ≡ count_of r → (x y : Given) → NextEnsures Whole new c x → NextEnsures Half other c y → y ≡ x
  pub same_peek : (c : Cursor) → c.count ≡ count_of r → (n : ℕ) (x y : Peeked) → PeekEnsures Whole new c n x → PeekEnsures Half other c n y → y ≡ x
  pub same_look : (c : Cursor) → c.count ≡ count_of r → (n : ℕ) (x y : Peeked) → LookAheadEnsures Whole new c n x → LookAheadEnsures Half other c n y
      → y ≡ x
