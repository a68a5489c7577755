-- The reading of a source by the language alone: its records (document 01, "Records"), and how it stops. It is what lexer.rs's `TokenLexer`
-- hands out, one `LexedToken` after the other, with no list and no room: the crate `rust` proves that.
-- Assumes nothing.
use Rattle.std.specs.Prelude.{ℕ, zero, suc, List, [], ◌∷◌}
use Rattle.token.specs.Kind.{error}
use Rattle.token.specs.declared.Token.{Token}
use Rattle.rows.specs.declared.Row.{Row}
use Rattle.token.specs.Token.{token_of}
use Rattle.state.specs.State.{start_state}
use Rattle.state.specs.declared.Lexer.{Lexer}
use Rattle.state.specs.declared.State.{State}
use Rattle.lexer.specs.Step.{step}
use Rattle.stepping.specs.Invariant.{measure}
use Rattle.lexer.specs.declared.What.{What}
use Rattle.lexer.specs.declared.What.TheVariants as what

-- ---- records

-- `LexedToken`: a token with the bytes, the span and the indent that the lexer l has after it. Beside them it has the depth that the lexer had
-- before it (document 02, C-4), which the Rust's does not tell
abbrev pub row_of : Token → Lexer → Lexer → Row
row_of t before l =
    record {
      kind = t.kind;
      detail = t.detail;
      start = l.place.previous_byte.0;
      end = l.place.current_byte.0;
      start_line = l.place.span.start.line;
      start_column = l.place.span.start.column.0;
      end_line = l.place.span.end.line;
      end_column = l.place.span.end.column.0;
      indent = l.indent;
      depth = before.depth;
    }

-- ---- the reading

-- why it stops
pub data Stop : Type 0 where
  -- the Rust would answer None
  ended : Stop
  -- the last record is an Error that advanced nothing; the Rust repeats it for ever
  stuck : Stop
  -- a token would push a 65th mode
  deep : Stop

pub record Reading : Type 0 where
  pub rows : List Row
  pub stop : Stop

-- a record in front of a reading
abbrev pub onto : Row → Reading → Reading
onto row r = record { rows = row ∷ r.rows; stop = r.stop }

-- an Error that advanced nothing is the last record; l is the lexer after it
abbrev pub stuck_reading : Lexer → Lexer → Reading
stuck_reading before l = record { rows = row_of (token_of error) before l ∷ []; stop = stuck }

-- nothing more is read
abbrev pub stopped : Stop → Reading
stopped why = record { rows = []; stop = why }

-- what a step found, the lexer before it, the state after it, and what `go` reads from there
abbrev pub after_step : (State → Reading) → Lexer → State → What → Reading
after_step go before after (what.Token t) = onto (row_of t before after.lexer) (go after)
after_step go before after what.Stuck = stuck_reading before after.lexer
after_step go before after what.ModesFull = stopped deep
after_step go before after what.End = stopped ended

-- the reading from a state, in so many steps. `read_from` gives it one more than can be taken: `ReadingLaws.reading_step` is its equation,
-- in which no steps are counted
unfoldable pub read_in : ℕ → (ℕ → ℕ) → ℕ → List ℕ → State → Reading
read_in zero look edition s st = stopped ended
read_in (suc n) look edition s st =
    after_step (λ after. read_in n look edition s after) st.lexer (step look edition s st).state (step look edition s st).what

unfoldable pub read_from : (ℕ → ℕ) → ℕ → List ℕ → State → Reading
read_from look edition s st = read_in (suc (measure s st)) look edition s st

-- the reading of a source
abbrev pub reading : (ℕ → ℕ) → ℕ → List ℕ → Reading
reading look edition s = read_from look edition s start_state
