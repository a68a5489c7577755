-- lexer.rs `TokenLexer` as the Rust has it: one state with its own stack of modes, which has no bound, and `get_next_token`, which decides
-- by the top of that stack and leaves the whole next state. Its arms are those of `take_token`. And its tokens one after the other, as
-- `next_token` hands them out. No room is here, no list, and no copy beside the stack.
-- Assumes nothing.
use Rattle.std.specs.Prelude.{ℕ, zero, suc, ◌≡◌, List, [], ◌∷◌, length, Option, Some, None}
use Rattle.position.specs.Position.{line_start}
use Rattle.position.specs.declared.ByteOffset.{ByteOffset}
use Rattle.position.specs.declared.Span.{Span}
use Rattle.token.specs.Kind.{error, no_token}
use Rattle.token.specs.declared.Token.{Token}
use Rattle.rows.specs.declared.Row.{Row}
use Rattle.state.specs.Lexer.{settled}
use Rattle.state.specs.Stack.{top, changed}
use Rattle.state.specs.declared.Lexer.{Lexer}
use Rattle.state.specs.declared.Taken.{Taken}
use Rattle.lexer.specs.GetNextToken.{take_token, remaining_at}
use Rattle.reading.specs.Reading.{row_of}
use Rattle.queue.specs.Queue.{Stream}

-- `struct TokenLexer`, less the source; the stack's top is first
pub record TokenLexer : Type 0 where
  pub current_byte : ByteOffset
  pub previous_byte : ByteOffset
  pub previous_token : Option Token
  pub span : Span
  pub indent : ℕ
  pub string_mode_stack : List ℕ

-- `new`
abbrev pub new_token_lexer : TokenLexer
new_token_lexer =
    record {
      current_byte = record { 0 = 0 };
      previous_byte = record { 0 = 0 };
      previous_token = None;
      span = line_start 0;
      indent = 0;
      string_mode_stack = [];
    }

-- the kind of the previous token, by which the Rust's tests of it go; `no_token` is the kind of none
abbrev pub kind_of : Option Token → ℕ
kind_of None = no_token
kind_of (Some t) = t.kind

-- what a `consume_*` is given: the fields, and of the stack its `last()` and its length
abbrev pub view_of : TokenLexer → Lexer
view_of x =
    record {
      place = record { previous_byte = x.previous_byte; current_byte = x.current_byte; span = x.span };
      indent = x.indent;
      previous_token = kind_of x.previous_token;
      depth = length x.string_mode_stack;
      mode = top x.string_mode_stack;
    }

-- the state with the fields of a lexer, this previous token and this stack
abbrev pub with_fields : Lexer → Option Token → List ℕ → TokenLexer
with_fields l previous stack =
    record {
      current_byte = l.place.current_byte;
      previous_byte = l.place.previous_byte;
      previous_token = previous;
      span = l.place.span;
      indent = l.indent;
      string_mode_stack = stack;
    }

-- what a call answers, and the state after it
pub record Given : Type 0 where
  pub token : Option Token
  pub after : TokenLexer

-- `Some(result)`, and `self.previous_token = result`
abbrev pub given : Taken → List ℕ → Given
given t stack = record { token = Some t.token; after = with_fields t.lexer (Some t.token) (changed t.change stack) }

-- `match self.source.get(self.current_byte..)`: the characters that are left
abbrev pub given_at : (ℕ → ℕ) → ℕ → List ℕ → TokenLexer → Given
-- `_ => None`, and `self.previous_token = result`
given_at look edition [] x = record { token = None; after = with_fields (view_of x) None x.string_mode_stack }
given_at look edition (c ∷ cs) x = given (take_token look edition (c ∷ cs) (settled (view_of x))) x.string_mode_stack

-- `get_next_token`
abbrev pub get_next_token : (ℕ → ℕ) → ℕ → List ℕ → TokenLexer → Given
get_next_token look edition s x = given_at look edition (remaining_at s x.current_byte.0) x

-- ---- the tokens, one after the other

-- `LexedToken`: the token, if there is one, with the bytes, the span and the indent of the state after it, and with the length of
-- `string_mode_stack` before it (`view_of`), which the Rust does not hand out (document 02, C-4)
abbrev pub lexed_of : TokenLexer → Option Token → TokenLexer → Option Row
lexed_of before None after = None
lexed_of before (Some t) after = Some (row_of t (view_of before) (view_of after))

-- `next_token`
abbrev pub lexed : (ℕ → ℕ) → ℕ → List ℕ → TokenLexer → Option Row
lexed look edition s x = lexed_of x (get_next_token look edition s x).token (get_next_token look edition s x).after

-- the state once so many calls were made
unfoldable pub state_at : (ℕ → ℕ) → ℕ → List ℕ → ℕ → TokenLexer → TokenLexer
state_at look edition s zero x = x
state_at look edition s (suc n) x = state_at look edition s n (get_next_token look edition s x).after

-- what the next call answers then
unfoldable pub handed : (ℕ → ℕ) → ℕ → List ℕ → ℕ → TokenLexer → Option Row
handed look edition s n x = lexed look edition s (state_at look edition s n x)

-- the stream of a source: what the calls answer from the start. It never ends where the Rust's never does
abbrev pub stream_of : (ℕ → ℕ) → ℕ → List ℕ → Stream
stream_of look edition s n = handed look edition s n new_token_lexer

-- the next token is an Error, and no byte is passed
pub record StandsStill (look : ℕ → ℕ) (edition : ℕ) (s : List ℕ) (x : TokenLexer) : Type 0 where
  pub token : Token
  pub answered : (get_next_token look edition s x).token ≡ Some token
  pub kind : token.kind ≡ error
  pub byte : (get_next_token look edition s x).after.current_byte.0 ≡ x.current_byte.0
