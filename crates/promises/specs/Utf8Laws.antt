-- The promises of `Utf8`, proved, and that no second answer fits.
--     read_char_promise, read_char_has_one_answer
--     check_utf8_promise, check_utf8_has_one_answer
-- Assumes nothing.
use Rattle.std.specs.Prelude.{ℕ, ◌≡◌, List, Result, Ok, Err}
use Rattle.std.proofs.Common.{arith, sym, ap}
use Rattle.base.specs.Refusal.{none, bad_utf8, cut_utf8}
use Rattle.utf8.specs.Encode.{WellFormed}
use Rattle.utf8.specs.Meaning.{ReadIs, Arriving, Damaged, CheckIs}
use Rattle.utf8.specs.MeaningLaws.{read_is, one_read, check_is, one_check}
use Rattle.utf8.specs.Answer.{number_of, place_of}
use Rattle.utf8.specs.Read.{Read}
use Rattle.utf8.specs.declared.Utf8Error.{Utf8Error}
use Rattle.utf8.specs.declared.Utf8Error.TheVariants.{BadAt, CutAt}
use Rattle.promises.specs.Utf8.{ReadCharEnsures, CheckUtf8Ensures, check_says, CheckUtf8Promise}

-- the answer means what `encode` alone says, and nothing else could be answered
pub read_char_promise : (s : List ℕ) (at : ℕ) (r : Read) → ReadCharEnsures s at r → ReadIs s at r
read_char_promise s at r e = read_is s at r (sym e)

pub read_char_has_one_answer : (s : List ℕ) (at : ℕ) (r q : Read) → ReadCharEnsures s at r → ReadIs s at q → r ≡ q
read_char_has_one_answer s at r q e m = one_read s at r q (read_char_promise s at r e) m

-- what an answer says, by what it means
said_by : (s : List ℕ) (r q : Result (Unit {0}) Utf8Error) → CheckIs s r → CheckIs s q → check_says r ≡ check_says q
said_by s r q m w = ap check_says (one_check s r q m w)

-- what it means, by its number
fine_only : (s : List ℕ) (r : Result (Unit {0}) Utf8Error) → CheckIs s r → number_of r ≡ none → WellFormed s
fine_only s (Ok _) w e = w
fine_only s (Err (BadAt n)) w e = absurd (omega arith)
fine_only s (Err (CutAt n)) w e = absurd (omega arith)

bad_only : (s : List ℕ) (r : Result (Unit {0}) Utf8Error) → CheckIs s r → number_of r ≡ bad_utf8 → Damaged s (place_of r)
bad_only s (Ok _) w e = absurd (omega arith)
bad_only s (Err (BadAt n)) w e = w
bad_only s (Err (CutAt n)) w e = absurd (omega arith)

cut_only : (s : List ℕ) (r : Result (Unit {0}) Utf8Error) → CheckIs s r → number_of r ≡ cut_utf8 → Arriving s (place_of r)
cut_only s (Ok _) w e = absurd (omega arith)
cut_only s (Err (BadAt n)) w e = absurd (omega arith)
cut_only s (Err (CutAt n)) w e = w

pub check_utf8_promise : (s : List ℕ) (r : Result (Unit {0}) Utf8Error) → CheckUtf8Ensures s r → CheckUtf8Promise s r
check_utf8_promise s r e =
    let m = check_is s r (sym e) in
    record {
      fine = λ w. said_by s r (Ok tt) m w;
      bad_utf8_lem = λ n w. said_by s r (Err (BadAt n)) m w;
      cut_utf8_lem = λ n w. said_by s r (Err (CutAt n)) m w;
      only_fine = fine_only s r m;
      only_bad = bad_only s r m;
      only_cut = cut_only s r m;
      means = m;
    }

pub check_utf8_has_one_answer : (s : List ℕ) (r q : Result (Unit {0}) Utf8Error) → CheckUtf8Ensures s r → CheckIs s q → r ≡ q
check_utf8_has_one_answer s r q e m = one_check s r q (check_is s r (sym e)) m
