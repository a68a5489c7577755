-- lexer.rs `RawStringDelimiter`: where the end delimiter of a raw string stands, in bytes.
-- Assumes nothing.
use Rattle.std.specs.Prelude.{ℕ, ◌+◌, ◌≤◌, ◌<◌, ◌≡◌, List, length}
use Rattle.text.specs.Bytes.{byte_at}
use Rattle.text.specs.Tests.{hash}
use Rattle.state.specs.Modes.{quote_of, hash_count_of}

-- so many hashes stand from j on, within s
pub record Hashes (s : List ℕ) (j count : ℕ) : Type 0 where
  pub all : (k : ℕ) → k < count → byte_at s (j + k) ≡ hash
  pub inside : j + count ≤ length s

-- the delimiter's quote stands at i, and its hashes after it
pub record Delimited (s : List ℕ) (delimiter i : ℕ) : Type 0 where
  pub quote : byte_at s i ≡ quote_of delimiter
  pub hashes : Hashes s (i + 1) (hash_count_of delimiter)
