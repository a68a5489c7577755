-- Document 01, "Refusal numbers", and document 02, C-3, of what `read_char` and `check_utf8` answer: wrong bytes are refusal 3, and a
-- character that the end cuts is 15. How many bytes a character has is `len_of` (`Lengths`).
-- Assumes nothing.
use Rattle.std.specs.Prelude.{ℕ, Result, Ok, Err}
use Rattle.base.specs.Refusal.{none, bad_utf8, cut_utf8}
use Rattle.utf8.specs.Read.{Read}
use Rattle.utf8.specs.declared.ReadError.TheVariants.{Bad, Cut}
use Rattle.utf8.specs.declared.Utf8Error.{Utf8Error}
use Rattle.utf8.specs.declared.Utf8Error.TheVariants.{BadAt, CutAt}

-- ---- one character

-- the number
abbrev pub read_number : Read → ℕ
read_number (Ok _) = none
read_number (Err Bad) = bad_utf8
read_number (Err Cut) = cut_utf8

-- the code point; 0 where there is no character
abbrev pub code_of : Read → ℕ
code_of (Ok (code, len)) = code
code_of (Err _) = 0

-- ---- all bytes

-- the number
abbrev pub number_of : Result (Unit {0}) Utf8Error → ℕ
number_of (Ok _) = none
number_of (Err (BadAt i)) = bad_utf8
number_of (Err (CutAt i)) = cut_utf8

-- the place: the offset of the first ill-formed sequence; 0 where there is none
abbrev pub place_of : Result (Unit {0}) Utf8Error → ℕ
place_of (Ok _) = 0
place_of (Err (BadAt i)) = i
place_of (Err (CutAt i)) = i
