-- The promises of `lookahead::next` and `lookahead::peek` over a list in either layout, case by case in document 01's order, and what the two say
-- after a scan.
-- Assumes nothing.
use Rattle.std.specs.Prelude.{ℕ, ◌+◌, ◌-◌, ◌<◌, ◌≤◌, ◌≡◌, true, false, List, length, get_or, Option, Some, None, Ok, Err}
use Rattle.base.specs.Refusal.{peek_too_far, queue_full, bad_state, bad_record}
use Rattle.layout.specs.Layout.{room_in, row_in, fits_in, shown_in}
use Rattle.layout.specs.declared.Layout.{Layout}
use Rattle.rows.specs.declared.Row.{Row}
use Rattle.reading.specs.Scan.{Scanned}
use Rattle.reading.specs.declared.Scan.TheVariants as scan
use Rattle.cursor.specs.Cursor.{queue_most, start_cursor, ahead}
use Rattle.lookahead.specs.Next as ofNext
use Rattle.lookahead.specs.Next.{next_of, Given, handed}
use Rattle.lookahead.specs.Peek as ofPeek
use Rattle.lookahead.specs.Peek.{peek_of, Peeked, looked}
use Rattle.cursor.specs.declared.Status.TheVariants.{End, Stuck}
use Rattle.cursor.specs.declared.Cursor.{Cursor}
use Rattle.queue.specs.Queue.{KotoLexer, Stream, new_lexer, underflows}
use Rattle.queue.specs.Calls.{Call, next, peek, Outcome, call, after_calls, tokens_of, Unrefused, nexts, rust_after, rust_tokens}
use Rattle.promises.specs.Said.{Said, says}

-- ---- the cursor

-- the unfit ones, as document 01 lists them
pub data Unfit (layout : Layout) (list : List ℕ) (c : Cursor) : Type 0 where
  list_short : room_in layout list < c.count → Unfit layout list c
  taken_over : c.count < c.taken → Unfit layout list c
  queued_past_end : c.status ≡ End → c.count - c.taken < c.queued → Unfit layout list c
  stuck_all_taken : c.status ≡ Stuck → c.count ≤ c.taken → Unfit layout list c
  queued_over : queue_most < c.queued → Unfit layout list c

-- there is a token past the queued ones
pub data More (c : Cursor) : Type 0 where
  left : c.taken + c.queued < c.count → More c
  again : c.status ≡ Stuck → More c

-- ---- `next`

-- what it ensures of its answer
abbrev pub NextEnsures : Layout → List ℕ → Cursor → Given → Type 0
NextEnsures layout list c r = r ≡ next_of (room_in layout list) (shown_in layout list c.count) c

abbrev pub given_says : Given → Said
given_says r = says (ofNext.number_of r) (ofNext.place_of r)

-- the cursor after it: so many are taken, and one less is queued, if one was
abbrev pub handed_on : Cursor → ℕ → Cursor
handed_on c taken = record { taken = taken; queued = c.queued - 1; count = c.count; status = c.status }

-- the cases shut each other out, and leave nothing out
pub record NextPromise (layout : Layout) (list : List ℕ) (c : Cursor) (r : Given) : Type 0 where
  pub unfit : Unfit layout list c → given_says r ≡ says bad_state 0
  pub nothing_left : (Unfit layout list c → ⊥) → c.taken ≡ c.count → r ≡ Ok None
  pub bad_record_lem :
      (Unfit layout list c → ⊥) → c.taken < c.count → fits_in layout list c.count c.taken ≡ false → given_says r ≡ says bad_record c.taken
  pub at_end :
      (Unfit layout list c → ⊥) → c.status ≡ End → c.taken < c.count → fits_in layout list c.count c.taken ≡ true
      → r ≡ handed (row_in layout list c.taken) (handed_on c (c.taken + 1))
  pub at_stuck :
      (Unfit layout list c → ⊥) → c.status ≡ Stuck → c.taken + 1 < c.count → fits_in layout list c.count c.taken ≡ true
      → r ≡ handed (row_in layout list c.taken) (handed_on c (c.taken + 1))
  -- the last record is handed out again and again
  pub at_last :
      (Unfit layout list c → ⊥) → c.status ≡ Stuck → c.taken + 1 ≡ c.count → fits_in layout list c.count c.taken ≡ true
      → r ≡ handed (row_in layout list c.taken) (handed_on c c.taken)

-- ---- `peek`

-- what it ensures of its answer
abbrev pub PeekEnsures : Layout → List ℕ → Cursor → ℕ → Peeked → Type 0
PeekEnsures layout list c n r = r ≡ peek_of (room_in layout list) (shown_in layout list c.count) c n

abbrev pub peeked_says : Peeked → Said
peeked_says r = says (ofPeek.number_of r) (ofPeek.place_of r)

-- d is the cursor that has queued what a look at n asks for: one more token, if there is one and n is at most what is queued
pub data Queues (c : Cursor) (n : ℕ) : Cursor → Type 0 where
  one_more_lem :
      n ≤ c.queued → More c → c.queued < queue_most
      → Queues c n (record { taken = c.taken; queued = c.queued + 1; count = c.count; status = c.status })
  no_more : n ≤ c.queued → (More c → ⊥) → Queues c n c
  next_one : n ≡ c.queued + 1 → Queues c n c

-- the cases shut each other out, and leave nothing out
pub record PeekPromise (layout : Layout) (list : List ℕ) (c : Cursor) (n : ℕ) (r : Peeked) : Type 0 where
  pub unfit : Unfit layout list c → peeked_says r ≡ says bad_state 0
  pub too_far : (Unfit layout list c → ⊥) → c.queued + 1 < n → peeked_says r ≡ says peek_too_far 0
  pub full : (Unfit layout list c → ⊥) → n ≤ c.queued → More c → c.queued ≡ queue_most → peeked_says r ≡ says queue_full 0
  pub nothing : (Unfit layout list c → ⊥) → (d : Cursor) → Queues c n d → d.queued ≤ n → r ≡ looked None d
  pub bad_record_lem :
      (Unfit layout list c → ⊥) → (d : Cursor) → Queues c n d → n < d.queued → fits_in layout list c.count (ahead c n) ≡ false
      → peeked_says r ≡ says bad_record (ahead c n)
  pub shown :
      (Unfit layout list c → ⊥) → (d : Cursor) → Queues c n d → n < d.queued → fits_in layout list c.count (ahead c n) ≡ true
      → r ≡ looked (Some (row_in layout list (ahead c n))) d
  -- which record that is: the one n places on, and at Stuck no other than the last past it
  pub place_at_end : c.status ≡ End → c.taken + n ≤ c.count → ahead c n ≡ c.taken + n
  pub place_at_stuck : c.status ≡ Stuck → c.taken + n < c.count → ahead c n ≡ c.taken + n
  pub place_past : c.status ≡ Stuck → c.count ≤ c.taken + n → ahead c n ≡ c.count - 1

-- ---- calls over a list of so many records

-- one call, from a cursor
abbrev pub call_on : Layout → List ℕ → ℕ → Cursor → Call → Outcome
call_on layout list count = call (room_in layout list) (shown_in layout list count)

-- the cursor after some calls
abbrev pub after_on : Layout → List ℕ → ℕ → Cursor → List Call → Cursor
after_on layout list count = after_calls (room_in layout list) (shown_in layout list count)

-- their tokens, one for each call
abbrev pub tokens_on : Layout → List ℕ → ℕ → Cursor → List Call → List (Option Row)
tokens_on layout list count = tokens_of (room_in layout list) (shown_in layout list count)

-- none of them is refused
abbrev pub UnrefusedOn : Layout → List ℕ → ℕ → Cursor → List Call → Type 0
UnrefusedOn layout list count = Unrefused (room_in layout list) (shown_in layout list count)

-- ---- after a scan

-- the cursor to begin with, where the scan was not refused
abbrev pub BeginsAt : Scanned → Cursor → Type 0
BeginsAt (Ok (scan.End n b)) c = c ≡ start_cursor n End
BeginsAt (Ok (scan.Stuck n b)) c = c ≡ start_cursor n Stuck
BeginsAt (Err e) c = ⊥

-- this number is 6 exactly where the Rust's subtraction underflows
abbrev pub TooFarIs : ℕ → ℕ → KotoLexer → Type 0
TooFarIs number n k =
    (number ≡ peek_too_far → underflows n (length k.token_queue) ≡ true)
    × (underflows n (length k.token_queue) ≡ true → number ≡ peek_too_far)

-- what every sequence of calls meets that begins at this cursor, over a list that holds these rows; the Rust's `KotoLexer` goes over this
-- stream
pub record HandsOut (layout : Layout) (list : List ℕ) (rows : List Row) (stream : Stream) (c : Cursor) : Type 0 where
  -- whatever was called before, no call gets 8 or 9
  pub never_refused :
      (calls : List Call) (x : Call)
      → ((call_on layout list c.count (after_on layout list c.count c calls) x).number ≡ bad_state → ⊥) × ((call_on layout list c.count (after_on layout list c.count c calls) x).number ≡ bad_record → ⊥)
  -- `next` hands out the rows in order, whatever was looked at between
  pub in_order :
      (calls : List Call) (d : Row) → nexts calls < length rows
      → (call_on layout list c.count (after_on layout list c.count c calls) next).token ≡ Some (get_or rows (nexts calls) d)
  -- and then nothing at End, and the last for ever at Stuck
  pub ended :
      c.status ≡ End → (calls : List Call) → length rows ≤ nexts calls → (call_on layout list c.count (after_on layout list c.count c calls) next).token ≡ None
  pub endless :
      c.status ≡ Stuck → (calls : List Call) (d : Row) → length rows ≤ nexts calls
      → (call_on layout list c.count (after_on layout list c.count c calls) next).token ≡ Some (get_or rows (length rows - 1) d)
  -- calls of which none is refused answer what the Rust's answer
  pub as_in_rust : (calls : List Call) → UnrefusedOn layout list c.count c calls → rust_tokens stream new_lexer calls ≡ tokens_on layout list c.count c calls
  -- after such calls 6 is given exactly where the Rust's subtraction underflows, and 7 only where its queue is full
  pub too_far :
      (calls : List Call) → UnrefusedOn layout list c.count c calls → (n : ℕ)
      → TooFarIs (call_on layout list c.count (after_on layout list c.count c calls) (peek n)).number n (rust_after stream new_lexer calls)
  pub full :
      (calls : List Call) → UnrefusedOn layout list c.count c calls → (n : ℕ) → (call_on layout list c.count (after_on layout list c.count c calls) (peek n)).number ≡ queue_full
      → length (rust_after stream new_lexer calls).token_queue ≡ queue_most
