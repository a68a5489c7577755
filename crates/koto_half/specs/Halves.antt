-- What `koto_scan_half` returns and writes, from the inner call's answer.
-- Assumes nothing.
use Rattle.std.specs.Prelude.{ℕ, ◌≡◌, List}
use Rattle.half_rows.specs.Half.{room, put_halves}
use Rattle.reading.specs.Scan.{scanned, written_marked, number_of, place_of, count_of}
use Rattle.reading.specs.Status.{half_status_of}

-- what `koto_scan_half` ensures, of the list `new` that it leaves of the list `old`; the byte is the current byte, or the refusal's place
pub record ScanHalfIs (source table : List ℕ) (edition : ℕ) (old new : List ℕ) (status count byte r : ℕ) : Type 0 where
  pub number : r ≡ number_of (scanned source table edition (room old))
  pub status_is : status ≡ half_status_of (scanned source table edition (room old))
  pub count_is : count ≡ count_of (scanned source table edition (room old))
  pub byte_is : byte ≡ place_of (scanned source table edition (room old))
  pub words : new ≡ put_halves old (written_marked source table edition (room old))
