-- Document 01, "Look-ahead": `next`. It checks 8, 9; a refusal leaves the cursor.
-- Assumes nothing.
use Rattle.std.specs.Prelude.{ℕ, Option, Some, None, Result, Ok, Err}
use Rattle.base.specs.Pick.{pick}
use Rattle.base.specs.Refusal.{none, bad_state, bad_record}
use Rattle.rows.specs.declared.Row.{Row}
use Rattle.cursor.specs.Cursor.{is_fit, moved_on}
use Rattle.cursor.specs.declared.Cursor.{Cursor}
use Rattle.lookahead.specs.Seen.{seen_at}
use Rattle.lookahead.specs.declared.Handed.{Handed}
use Rattle.lookahead.specs.declared.NextError.{NextError}
use Rattle.lookahead.specs.declared.NextError.TheVariants.{BadState, BadRecord}

-- what `next` answers: the next token and the cursor after it, none where all are taken, or a refusal
abbrev pub Given : Type 0
Given = Result (Option Handed) NextError

-- a token is handed out
abbrev pub handed : Row → Cursor → Given
handed row after = Ok (Some (record { row = row; cursor = after }))

-- what is seen there is handed out
abbrev pub given_by : Cursor → Result (Option Row) ℕ → Given
given_by c (Ok (Some row)) = handed row (moved_on c)
given_by c (Ok None) = Ok None
given_by c (Err i) = Err (BadRecord i)

-- the answer, over a list that has room for so many records and shows these
unfoldable pub next_of : ℕ → (ℕ → Option Row) → Cursor → Given
next_of room shown c = pick (is_fit room c) (given_by c (seen_at shown c 0)) (Err BadState)

-- document 01's number of an answer
abbrev pub number_of : Given → ℕ
number_of (Ok given) = none
number_of (Err BadState) = bad_state
number_of (Err (BadRecord i)) = bad_record

-- and its place
abbrev pub place_of : Given → ℕ
place_of (Ok given) = 0
place_of (Err BadState) = 0
place_of (Err (BadRecord i)) = i
