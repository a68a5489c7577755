-- What `koto_scan_profile` returns and writes, from the inner call's answer.
-- Assumes nothing.
use Rattle.std.specs.Prelude.{ℕ, ◌≡◌, List}
use Rattle.rows.specs.Row.{room, put_rows}
use Rattle.reading.specs.Scan.{scanned, written}
use Rattle.forbidden.specs.Forbidden.{first_forbidden}
use Rattle.profile.specs.Profile.{Profiled, profiled_by, number_of, place_of, count_of, status_of}

module _ (source table : List ℕ) (edition : ℕ) where
  -- the inner call's answer for a list with room for so many records
  abbrev pub answer_in : ℕ → Profiled
  answer_in n = profiled_by (first_forbidden source table edition) (scanned source table edition n)

  -- what `koto_scan_profile` ensures, of the list `new` that it leaves of the list `old`; the byte is the current byte, the refusal's place, or
  -- for 21 the record's index
  pub record ScanProfileIs (old new : List ℕ) (status count byte r : ℕ) : Type 0 where
    pub number : r ≡ number_of (answer_in (room old))
    pub status_is : status ≡ status_of (answer_in (room old))
    pub count_is : count ≡ count_of (answer_in (room old))
    pub byte_is : byte ≡ place_of (answer_in (room old))
    pub words : new ≡ put_rows old (written source table edition (room old))
