-- The promises of `utf8::read_char` and `utf8::check_utf8`, by RFC 3629's encoding alone.
-- Assumes nothing.
use Rattle.std.specs.Prelude.{ℕ, ◌≡◌, List, Result}
use Rattle.base.specs.Refusal.{none, bad_utf8, cut_utf8}
use Rattle.utf8.specs.Encode.{WellFormed}
use Rattle.utf8.specs.Read.{Read, read_at}
use Rattle.utf8.specs.Chars.{check_from}
use Rattle.utf8.specs.Meaning.{Arriving, Damaged, CheckIs}
use Rattle.utf8.specs.Answer.{number_of, place_of}
use Rattle.utf8.specs.declared.Utf8Error.{Utf8Error}
use Rattle.promises.specs.Said.{Said, says}

-- what `read_char` ensures of its answer
abbrev pub ReadCharEnsures : List ℕ → ℕ → Read → Type 0
ReadCharEnsures s at r = r ≡ read_at s at

-- what `check_utf8` ensures of its answer
abbrev pub CheckUtf8Ensures : List ℕ → Result (Unit {0}) Utf8Error → Type 0
CheckUtf8Ensures s r = r ≡ check_from 0 s

abbrev pub check_says : Result (Unit {0}) Utf8Error → Said
check_says r = says (number_of r) (place_of r)

-- the promise of `check_utf8`: no refusal exactly for the encoding of some scalar values; else the place is the end of the longest well-formed
-- beginning, with 15 exactly where what stands there is a proper beginning of a character stopped by the end, and with 3 where it is not
pub record CheckUtf8Promise (s : List ℕ) (r : Result (Unit {0}) Utf8Error) : Type 0 where
  pub fine : WellFormed s → check_says r ≡ says none 0
  pub bad_utf8_lem : (n : ℕ) → Damaged s n → check_says r ≡ says bad_utf8 n
  pub cut_utf8_lem : (n : ℕ) → Arriving s n → check_says r ≡ says cut_utf8 n
  pub only_fine : number_of r ≡ none → WellFormed s
  pub only_bad : number_of r ≡ bad_utf8 → Damaged s (place_of r)
  pub only_cut : number_of r ≡ cut_utf8 → Arriving s (place_of r)
  pub means : CheckIs s r
