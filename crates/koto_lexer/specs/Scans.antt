-- What `koto_scan` returns and writes, from the inner call's answer.
-- Assumes nothing.
use Rattle.std.specs.Prelude.{ℕ, ◌≡◌, List}
use Rattle.rows.specs.Row.{room, put_rows}
use Rattle.reading.specs.Scan.{scanned, written, number_of, place_of, count_of}
use Rattle.reading.specs.Status.{status_of}

-- what `koto_scan` ensures, of the list `new` that it leaves of the list `old`; the byte is the current byte, or the refusal's place
pub record ScanIs (source table : List ℕ) (edition : ℕ) (old new : List ℕ) (status count byte r : ℕ) : Type 0 where
  pub number : r ≡ number_of (scanned source table edition (room old))
  pub status_is : status ≡ status_of (scanned source table edition (room old))
  pub count_is : count ≡ count_of (scanned source table edition (room old))
  pub byte_is : byte ≡ place_of (scanned source table edition (room old))
  pub words : new ≡ put_rows old (written source table edition (room old))
