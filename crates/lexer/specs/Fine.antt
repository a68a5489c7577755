-- What holds of the lexer between two steps: it is within the source, with line and column bounded by the bytes before it, and at the
-- start of a character or inside one that an unknown symbol cut, where the scan is over.
-- Assumes nothing.
use Rattle.std.specs.Prelude.{ℕ, ◌+◌, ◌*◌, ◌≤◌, ◌<◌, ◌≡◌, false, List, length, get_or, drop, Ok}
use Rattle.base.specs.Refusal.{source_most}
use Rattle.utf8.specs.Encode.{WellFormed}
use Rattle.utf8.specs.Read.{is_tail, read_at}
use Rattle.token.specs.Kind.{error}
use Rattle.state.specs.Lexer.{reach_of}
use Rattle.state.specs.declared.Lexer.{Lexer}

pub record Fine (s : List ℕ) (l : Lexer) : Type 0 where
  pub small : length s ≤ source_most
  pub inside : (reach_of l).byte.0 ≤ length s
  pub lines : (reach_of l).position.line ≤ (reach_of l).byte.0
  pub columns : (reach_of l).position.column.0 ≤ 3 * (reach_of l).byte.0
  pub whole : is_tail (get_or s (reach_of l).byte.0 0) ≡ false → WellFormed (drop (reach_of l).byte.0 s)

-- a token of this kind from the byte i to the byte j cuts a longer character: it is an Error of one byte, at the first byte of a character
-- of two bytes or more
pub record Cuts (s : List ℕ) (i kind j : ℕ) : Type 0 where
  pub is_error : kind ≡ error
  pub one_byte_lem : j ≡ i + 1
  pub code : ℕ
  pub len : ℕ
  pub character : read_at s i ≡ Ok (code, len)
  pub longer : 1 < len
