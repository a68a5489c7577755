-- How a scan ended, as a number: what a cursor over its list carries.
-- Assumes nothing.
use Rattle.std.specs.Prelude.{ℕ, Ok, Err}
use Rattle.reading.specs.Scan.{Scanned}
use Rattle.reading.specs.declared.Scan.TheVariants.{End, Stuck}

-- at the end, stuck, or refused
abbrev pub end_number : ℕ
end_number = 0

abbrev pub stuck_number : ℕ
stuck_number = 1

abbrev pub refused_number : ℕ
refused_number = 2

-- the same of a list with records at half the size (document 02, C-5): a cursor over it carries its layout
abbrev pub end_half_number : ℕ
end_half_number = 3

abbrev pub stuck_half_number : ℕ
stuck_half_number = 4

abbrev pub status_of : Scanned → ℕ
status_of (Ok (End n b)) = end_number
status_of (Ok (Stuck n b)) = stuck_number
status_of (Err e) = refused_number

abbrev pub half_status_of : Scanned → ℕ
half_status_of (Ok (End n b)) = end_half_number
half_status_of (Ok (Stuck n b)) = stuck_half_number
half_status_of (Err e) = refused_number
