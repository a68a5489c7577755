-- Document 01, "Look-ahead": `peek`. It checks 8, 6, 7, 9; a refusal leaves the cursor.
-- Assumes nothing.
use Rattle.std.specs.Prelude.{ℕ, ◌+◌, eqb, ltb, Option, None, Result, Ok, Err}
use Rattle.base.specs.Pick.{pick}
use Rattle.base.specs.Refusal.{none, peek_too_far, queue_full, bad_state, bad_record}
use Rattle.rows.specs.declared.Row.{Row}
use Rattle.cursor.specs.Cursor.{queue_most, is_fit, must_queue, queued_one}
use Rattle.cursor.specs.declared.Cursor.{Cursor}
use Rattle.lookahead.specs.Seen.{seen_at}
use Rattle.lookahead.specs.declared.Look.{Look}
use Rattle.lookahead.specs.declared.LookError.{LookError}
use Rattle.lookahead.specs.declared.LookError.TheVariants.{BadState, PeekTooFar, QueueFull, BadRecord}

-- what `peek` and `look_ahead` answer: the token, if there is one, and the cursor after it, or a refusal
abbrev pub Peeked : Type 0
Peeked = Result Look LookError

-- it is shown, or that there is none
abbrev pub looked : Option Row → Cursor → Peeked
looked row after = Ok (record { row = row; cursor = after })

-- what is seen there is shown
abbrev pub shown_by : Cursor → Result (Option Row) ℕ → Peeked
shown_by c (Ok row) = looked row c
shown_by c (Err i) = Err (BadRecord i)

-- queued token n, or nothing where not so many are queued
unfoldable pub queued_at : (ℕ → Option Row) → Cursor → ℕ → Peeked
queued_at shown c n = pick (ltb n c.queued) (shown_by c (seen_at shown c n)) (looked None c)

-- the answer, over a list that has room for so many records and shows these
unfoldable pub peek_of : ℕ → (ℕ → Option Row) → Cursor → ℕ → Peeked
peek_of room shown c n =
    pick (is_fit room c)
    (pick (ltb (c.queued + 1) n) (Err PeekTooFar)
    (pick (must_queue c n)
    (pick (eqb c.queued queue_most) (Err QueueFull) (queued_at shown (queued_one c) n))
    (queued_at shown c n)))
    (Err BadState)

-- document 01's number of an answer
abbrev pub number_of : Peeked → ℕ
number_of (Ok look) = none
number_of (Err BadState) = bad_state
number_of (Err PeekTooFar) = peek_too_far
number_of (Err QueueFull) = queue_full
number_of (Err (BadRecord i)) = bad_record

-- and its place
abbrev pub place_of : Peeked → ℕ
place_of (Ok look) = 0
place_of (Err BadState) = 0
place_of (Err PeekTooFar) = 0
place_of (Err QueueFull) = 0
place_of (Err (BadRecord i)) = i
