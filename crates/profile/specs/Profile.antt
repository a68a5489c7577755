-- The scan by the site profile (document 02, C-14): "the profile's reading is the base list, or a refusal at the first forbidden token". 21 comes
-- after a scan that was not refused, with the record's index; the list keeps the whole scan. What is forbidden stands in the crate `forbidden`.
-- Assumes nothing.
use Rattle.std.specs.Prelude.{ℕ, ◌≡◌, List, Result, Ok, Err, ltb}
use Rattle.base.specs.Pick.{pick}
use Rattle.base.specs.Refusal.{not_in_profile}
use Rattle.rows.specs.Row.{room, put_rows}
use Rattle.reading.specs.Scan as scan
use Rattle.reading.specs.Scan.{Scanned, scanned, written}
use Rattle.reading.specs.Status as status
use Rattle.reading.specs.Status.{refused_number}
use Rattle.reading.specs.declared.Scan.{Scan}
use Rattle.reading.specs.declared.Scan.TheVariants.{End, Stuck}
use Rattle.forbidden.specs.Forbidden.{first_forbidden}
use Rattle.profile.specs.declared.ProfileError.{ProfileError}
use Rattle.profile.specs.declared.ProfileError.TheVariants as error
use Rattle.profile.specs.declared.ProfileError.TheVariants.{NotInProfile}

-- what a scan by the profile answers
abbrev pub Profiled : Type 0
Profiled = Result Scan ProfileError

-- a scan's answer as it is
abbrev pub as_scan : Scanned → Profiled
as_scan (Ok s) = Ok s
as_scan (Err e) = Err (error.Scan e)

-- a scan of n records that was not refused, where this is the first record that is forbidden, or n
abbrev pub judged : ℕ → ℕ → Scan → Profiled
judged first n s = pick (ltb first n) (Err (NotInProfile n first)) (Ok s)

-- what is made of a scan's answer; a scan that was refused is refused as it was
abbrev pub profiled_by : ℕ → Scanned → Profiled
profiled_by first (Ok (End n b)) = judged first n (End n b)
profiled_by first (Ok (Stuck n b)) = judged first n (Stuck n b)
profiled_by first (Err e) = Err (error.Scan e)

-- what `scan_profile` ensures: its answer, and every word of the list, which is the scan's
pub record Profiles (source table : List ℕ) (edition : ℕ) (old : List ℕ) (r : Profiled) (new : List ℕ) : Type 0 where
  pub answer : r ≡ profiled_by (first_forbidden source table edition) (scanned source table edition (room old))
  pub words : new ≡ put_rows old (written source table edition (room old))

-- ---- the documents' numbers of an answer

abbrev pub number_of : Profiled → ℕ
number_of (Ok s) = scan.number_of (Ok s)
number_of (Err (error.Scan e)) = scan.number_of (Err e)
number_of (Err (NotInProfile n i)) = not_in_profile

-- the refusal's place, which is the record's index for 21; the current byte where there is no refusal
abbrev pub place_of : Profiled → ℕ
place_of (Ok s) = scan.place_of (Ok s)
place_of (Err (error.Scan e)) = scan.place_of (Err e)
place_of (Err (NotInProfile n i)) = i

-- how many records were written
abbrev pub count_of : Profiled → ℕ
count_of (Ok s) = scan.count_of (Ok s)
count_of (Err (error.Scan e)) = scan.count_of (Err e)
count_of (Err (NotInProfile n i)) = n

-- how it ended
abbrev pub status_of : Profiled → ℕ
status_of (Ok s) = status.status_of (Ok s)
status_of (Err e) = refused_number
