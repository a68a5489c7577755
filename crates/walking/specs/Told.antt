-- What is said of a call over a scan's list: the token that `next` hands out or `peek` or `look_ahead` shows, nothing, or document 01's number and place of
-- the refusal; and the cursor after it, which is the one before it where none is handed back.
-- Assumes nothing.
use Rattle.std.specs.Prelude.{ℕ, List, Some, None, Ok, Err}
use Rattle.base.specs.Refusal.{peek_too_far, queue_full, bad_state, bad_record}
use Rattle.rows.specs.Row.{room, shown_at}
use Rattle.lookahead.specs.Next.{Given, next_of}
use Rattle.lookahead.specs.Peek.{Peeked, peek_of}
use Rattle.lookahead.specs.LookAhead.{look_ahead_of}
use Rattle.cursor.specs.declared.Cursor.{Cursor}
use Rattle.lookahead.specs.declared.NextError.TheVariants as given
use Rattle.lookahead.specs.declared.LookError.TheVariants as peeked
use Rattle.walking.specs.declared.calls.Call.{Call}
use Rattle.walking.specs.declared.calls.Call.TheVariants.{Next, Peek, LookAhead}
use Rattle.walking.specs.declared.Told.{Told}

-- a refusal leaves the cursor
abbrev pub refused_at : ℕ → ℕ → Cursor → Told
refused_at number place c = record { what = Err (record { number = number; place = place }); cursor = c }

-- an answer of `next`
abbrev pub told_given : Cursor → Given → Told
told_given c (Ok (Some handed)) = record { what = Ok (Some handed.row); cursor = handed.cursor }
told_given c (Ok None) = record { what = Ok None; cursor = c }
told_given c (Err given.BadState) = refused_at bad_state 0 c
told_given c (Err (given.BadRecord i)) = refused_at bad_record i c

-- an answer of `peek` or `look_ahead`
abbrev pub told_peeked : Cursor → Peeked → Told
told_peeked c (Ok look) = record { what = Ok look.row; cursor = look.cursor }
told_peeked c (Err peeked.BadState) = refused_at bad_state 0 c
told_peeked c (Err peeked.PeekTooFar) = refused_at peek_too_far 0 c
told_peeked c (Err peeked.QueueFull) = refused_at queue_full 0 c
told_peeked c (Err (peeked.BadRecord i)) = refused_at bad_record i c

-- a call, from a cursor
abbrev pub told_of : List ℕ → Cursor → Call → Told
told_of list c Next = told_given c (next_of (room list) (shown_at list) c)
told_of list c (Peek n) = told_peeked c (peek_of (room list) (shown_at list) c n)
told_of list c (LookAhead n) = told_peeked c (look_ahead_of (room list) (shown_at list) c n)
