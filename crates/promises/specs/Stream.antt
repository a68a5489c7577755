-- The promise that joins the records of a scan to koto's lexer: the crate `rust` has lexer.rs's `TokenLexer` as the Rust has it, and its
-- stream, which is what its calls answer one after the other.
-- Assumes nothing.
use Rattle.std.specs.Prelude.{ℕ, suc, ◌≤◌, ◌≡◌, List, length, Some}
use Rattle.property.specs.Table.{properties_at}
use Rattle.rows.specs.declared.Row.{Row}
use Rattle.reading.specs.Reading.{Reading, reading}
use Rattle.reading.specs.Reading as stop
use Rattle.cursor.specs.declared.Status.TheVariants.{End, Stuck}
use Rattle.queue.specs.Queue.{Stream, get}
use Rattle.queue.specs.Calls.{Streams}
use Rattle.rust.specs.TokenLexer.{new_token_lexer, state_at, stream_of}
use Rattle.rust.specs.Hands.{Hands}

-- the Rust's stream over a source, where characters have the properties of this table and clusters go by this edition
abbrev pub rust_stream : List ℕ → List ℕ → ℕ → Stream
rust_stream source table edition = stream_of (properties_at table) edition source

-- our reading of it, whose records the list holds
abbrev pub our_reading : List ℕ → List ℕ → ℕ → Reading
our_reading source table edition = reading (properties_at table) edition source

-- the Rust hands out this reading: its records are the tokens one by one, until the Rust answers None for ever; until an Error that passes
-- no byte, which every later call answers again; or until a token that pushes a 65th mode
abbrev pub RustHands : List ℕ → List ℕ → ℕ → Reading → Type 0
RustHands source table edition r = Hands (properties_at table) edition source r new_token_lexer

-- how many modes the Rust has on its `string_mode_stack` once it has handed out so many tokens
abbrev pub rust_depth : List ℕ → List ℕ → ℕ → ℕ → ℕ
rust_depth source table edition n = length (state_at (properties_at table) edition source n new_token_lexer).string_mode_stack

-- document 02, C-4: each record has the depth that the Rust has before its token; so the first has 0, and neighbours differ by at most one
pub record Depths (source table : List ℕ) (edition : ℕ) (rows : List Row) : Type 0 where
  pub before : (i : ℕ) (row : Row) → get rows i ≡ Some row → row.depth ≡ rust_depth source table edition i
  pub first : (row : Row) → get rows 0 ≡ Some row → row.depth ≡ 0
  pub near : (i : ℕ) (row next : Row) → get rows i ≡ Some row → get rows (suc i) ≡ Some next
      → (next.depth ≤ suc row.depth) × (row.depth ≤ suc next.depth)

-- what holds of every source that no refusal meets before the work
pub record StreamPromise (source table : List ℕ) (edition : ℕ) : Type 0 where
  pub hands : RustHands source table edition (our_reading source table edition)
  -- and no other reading
  pub only : (r : Reading) → RustHands source table edition r → r ≡ our_reading source table edition
  pub depths : Depths source table edition (our_reading source table edition).rows
  -- so that the records and the status stand for the stream, which at Stuck does not end
  pub at_end : (our_reading source table edition).stop ≡ stop.ended
      → Streams (rust_stream source table edition) (our_reading source table edition).rows End
  pub at_stuck : (our_reading source table edition).stop ≡ stop.stuck
      → Streams (rust_stream source table edition) (our_reading source table edition).rows Stuck
