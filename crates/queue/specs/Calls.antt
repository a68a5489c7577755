-- Sequences of `next`, `peek` and `look_ahead`, here and over the Rust's queue, and when a cursor stands for the Rust's lexer. As a cursor does, they go over a
-- list that has room for so many records and shows these (`room`, `shown`).
-- Assumes nothing.
use Rattle.std.specs.Prelude.{ℕ, ◌+◌, ◌<◌, ◌≡◌, true, List, [], ◌∷◌, length, Option, Some, None, Ok, Err}
use Rattle.base.specs.Refusal.{none}
use Rattle.rows.specs.declared.Row.{Row}
use Rattle.cursor.specs.Cursor.{is_fit, record_at, ahead}
use Rattle.lookahead.specs.Next as ofNext
use Rattle.lookahead.specs.Next.{next_of, Given, handed}
use Rattle.lookahead.specs.Peek as ofPeek
use Rattle.lookahead.specs.Peek.{peek_of, Peeked}
use Rattle.lookahead.specs.LookAhead.{look_ahead_of}
use Rattle.queue.specs.Queue.{KotoLexer, Answered, Stream, get, rust_next, rust_peek, comment_look}
use Rattle.cursor.specs.declared.Status.{Status}
use Rattle.cursor.specs.declared.Cursor.{Cursor}

-- one of the calls
pub data Call : Type 0 where
  next : Call
  peek : ℕ → Call
  look_ahead : ℕ → Call

-- ---- here

-- what a call comes to: its number, the token that it hands out or shows, and the cursor after it
pub record Outcome : Type 0 where
  pub number : ℕ
  pub token : Option Row
  pub cursor : Cursor

-- the token that `next` hands out
abbrev pub given_token : Given → Option Row
given_token (Ok (Some handed)) = Some handed.row
given_token (Ok None) = None
given_token (Err e) = None

-- the cursor after it: the old one, where none is handed back
abbrev pub given_cursor : Cursor → Given → Cursor
given_cursor c (Ok (Some handed)) = handed.cursor
given_cursor c (Ok None) = c
given_cursor c (Err e) = c

-- the token that `peek` or `look_ahead` shows
abbrev pub peeked_token : Peeked → Option Row
peeked_token (Ok look) = look.row
peeked_token (Err e) = None

-- the cursor after it: the old one, where none is handed back
abbrev pub peeked_cursor : Cursor → Peeked → Cursor
peeked_cursor c (Ok look) = look.cursor
peeked_cursor c (Err e) = c

-- an answer of `next`
abbrev pub of_given : Cursor → Given → Outcome
of_given c r = record { number = ofNext.number_of r; token = given_token r; cursor = given_cursor c r }

-- an answer of `peek` or `look_ahead`
abbrev pub of_peeked : Cursor → Peeked → Outcome
of_peeked c r = record { number = ofPeek.number_of r; token = peeked_token r; cursor = peeked_cursor c r }

-- a call, from a cursor
abbrev pub call : ℕ → (ℕ → Option Row) → Cursor → Call → Outcome
call room shown c next = of_given c (next_of room shown c)
call room shown c (peek n) = of_peeked c (peek_of room shown c n)
call room shown c (look_ahead n) = of_peeked c (look_ahead_of room shown c n)

-- the cursor after some calls
unfoldable pub after_calls : ℕ → (ℕ → Option Row) → Cursor → List Call → Cursor
after_calls room shown c [] = c
after_calls room shown c (x ∷ calls) = after_calls room shown (call room shown c x).cursor calls

-- their tokens, one for each call
unfoldable pub tokens_of : ℕ → (ℕ → Option Row) → Cursor → List Call → List (Option Row)
tokens_of room shown c [] = []
tokens_of room shown c (x ∷ calls) = (call room shown c x).token ∷ tokens_of room shown (call room shown c x).cursor calls

-- none of them is refused
unfoldable pub Unrefused : ℕ → (ℕ → Option Row) → Cursor → List Call → Type 0
Unrefused room shown c [] = Unit {0}
Unrefused room shown c (x ∷ calls) = ((call room shown c x).number ≡ none) × Unrefused room shown (call room shown c x).cursor calls

-- how many places a call goes on
abbrev pub is_next : Call → ℕ
is_next next = 1
is_next (peek n) = 0
is_next (look_ahead n) = 0

-- how many of them are `next`
unfoldable pub nexts : List Call → ℕ
nexts [] = 0
nexts (x ∷ calls) = is_next x + nexts calls

-- each of these rows is shown at its index
abbrev pub Shows : (ℕ → Option Row) → List Row → Type 0
Shows shown rows = (i : ℕ) (row : Row) → get rows i ≡ Some row → shown i ≡ Some row

-- where a cursor stands after `next` was called i times
pub record Stands (room count : ℕ) (status : Status) (i : ℕ) (c : Cursor) : Type 0 where
  pub fit : is_fit room c ≡ true
  pub counted : c.count ≡ count
  pub ends : c.status ≡ status
  pub place : c.taken ≡ record_at count status i

-- ---- in the Rust

-- a call; its look-ahead is the comment's
abbrev pub rust_call : Stream → KotoLexer → Call → Answered
rust_call stream k next = rust_next stream k
rust_call stream k (peek n) = rust_peek stream k n
rust_call stream k (look_ahead n) = comment_look stream k n

-- the lexer after some calls
unfoldable pub rust_after : Stream → KotoLexer → List Call → KotoLexer
rust_after stream k [] = k
rust_after stream k (x ∷ calls) = rust_after stream (rust_call stream k x).after calls

-- their tokens, one for each call
unfoldable pub rust_tokens : Stream → KotoLexer → List Call → List (Option Row)
rust_tokens stream k [] = []
rust_tokens stream k (x ∷ calls) = (rust_call stream k x).token ∷ rust_tokens stream (rust_call stream k x).after calls

-- ---- the cursor and the Rust's lexer

-- the stream is what these rows and this status stand for: the row of each place. Past the last there is none at End, and at Stuck it is
-- the last for ever
abbrev pub Streams : Stream → List Row → Status → Type 0
Streams stream rows status = (i : ℕ) → stream i ≡ get rows (record_at (length rows) status i)

-- the cursor stands for the lexer. At Stuck the lexer counts on where the cursor stays, so the two agree only on the record that comes next
pub record Mirrors (room : ℕ) (rows : List Row) (status : Status) (c : Cursor) (k : KotoLexer) : Type 0 where
  pub counted : c.count ≡ length rows
  pub ends : c.status ≡ status
  pub fit : is_fit room c ≡ true
  -- so many are queued, and they are the rows of the places from the cursor on
  pub long : length k.token_queue ≡ c.queued
  pub queue : (i : ℕ) → i < c.queued → get k.token_queue i ≡ get rows (ahead c i)
  pub position : record_at c.count c.status k.lexer ≡ ahead c c.queued

-- a call says the same on both sides, and leads to a cursor that stands for the lexer after it
pub record Agrees (room : ℕ) (rows : List Row) (status : Status) (o : Outcome) (a : Answered) : Type 0 where
  pub token : a.token ≡ o.token
  pub mirrors : Mirrors room rows status o.cursor a.after
