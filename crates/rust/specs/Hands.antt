-- What it means that a reading is what the Rust's `TokenLexer` hands out: its records are the tokens one by one, and why it stops is what
-- the Rust does from there on.
-- Assumes nothing.
use Rattle.std.specs.Prelude.{ℕ, suc, ◌≤◌, ◌<◌, ◌≡◌, List, length, Some, None}
use Rattle.rows.specs.declared.Row.{Row}
use Rattle.lexer.specs.Step.{modes_most}
use Rattle.reading.specs.Reading.{Reading}
use Rattle.reading.specs.Reading as stop
use Rattle.queue.specs.Queue.{get}
use Rattle.rust.specs.TokenLexer.{TokenLexer, state_at, handed, StandsStill}

module _ (look : ℕ → ℕ) (edition : ℕ) (s : List ℕ) where
  -- the last record is an Error that passes no byte, and every call from there on answers it again
  pub record Sticks (rows : List Row) (x : TokenLexer) : Type 0 where
    pub last : ℕ
    pub size : length rows ≡ suc last
    pub stands : StandsStill look edition s (state_at look edition s last x)
    pub for_ever : (i : ℕ) → last ≤ i → handed look edition s i x ≡ get rows last

  -- the token after the last record is one, and its call leaves a 65th mode
  pub record Overflows (n : ℕ) (x : TokenLexer) : Type 0 where
    pub row : Row
    pub some_token : handed look edition s n x ≡ Some row
    pub full : length (state_at look edition s n x).string_mode_stack ≡ modes_most
    pub over : length (state_at look edition s (suc n) x).string_mode_stack ≡ suc modes_most

  -- the calls of the machine from x on, and a reading
  pub record Hands (r : Reading) (x : TokenLexer) : Type 0 where
    -- each record is what its call answers
    pub each : (i : ℕ) → i < length r.rows → handed look edition s i x ≡ get r.rows i
    -- an Error that stands still is the last
    pub goes : (i : ℕ) → i < length r.rows → StandsStill look edition s (state_at look edition s i x)
        → (r.stop ≡ stop.stuck) × (suc i ≡ length r.rows)
    -- up to the last record there are at most 64 modes
    pub room : (i : ℕ) → i ≤ length r.rows → length (state_at look edition s i x).string_mode_stack ≤ modes_most
    -- from there on: None for ever, or the last record for ever, or a token that pushes a 65th mode
    pub ended : r.stop ≡ stop.ended → (i : ℕ) → length r.rows ≤ i → handed look edition s i x ≡ None
    pub stuck : r.stop ≡ stop.stuck → Sticks r.rows x
    pub deep : r.stop ≡ stop.deep → Overflows (length r.rows) x
