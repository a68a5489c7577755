-- What `koto_read_char` and `koto_check_utf8` return and write, from the inner calls' answers.
-- Assumes nothing.
use Rattle.std.specs.Prelude.{ℕ, ◌≡◌, List}
use Rattle.utf8.specs.Read.{read_at}
use Rattle.utf8.specs.Lengths.{len_of}
use Rattle.utf8.specs.Chars.{check_from}
use Rattle.utf8.specs.Answer.{read_number, code_of, number_of, place_of}

-- what `koto_read_char` ensures
pub record ReadCharIs (bytes : List ℕ) (at code len r : ℕ) : Type 0 where
  pub number : r ≡ read_number (read_at bytes at)
  pub code_is : code ≡ code_of (read_at bytes at)
  pub len_is : len ≡ len_of (read_at bytes at)

-- what `koto_check_utf8` ensures
pub record CheckUtf8Is (bytes : List ℕ) (place r : ℕ) : Type 0 where
  pub number : r ≡ number_of (check_from 0 bytes)
  pub place_is : place ≡ place_of (check_from 0 bytes)
