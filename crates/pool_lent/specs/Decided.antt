-- What the functions below the public ones decide on numbers. No public contract cites it.
-- Assumes nothing.
use Rattle.std.specs.Prelude.{ℕ, List, Bool, false, Result, Ok, Err}
use Rattle.utf8.specs.Chars.{check_from}
use Rattle.utf8.specs.declared.Utf8Error.{Utf8Error}

-- nothing is refused before an addition, by what is said of the string's bytes and of the pool
abbrev pub fine_by : Result (Unit {0}) Utf8Error → Bool → Bool
fine_by (Ok _) fit = fit
fine_by (Err _) fit = false

abbrev pub fine_at : List ℕ → Bool → Bool
fine_at string fit = fine_by (check_from 0 string) fit
