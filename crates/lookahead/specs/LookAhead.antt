-- Document 02, C-1: `look_ahead`, the look-ahead as the comment of lexer.rs's `peek_n` has it. Position n shows the token that the (n+1)th
-- following `next` would hand out; only what is lacking is queued. It checks 8, 7, 9, and never gives 6; a refusal leaves the cursor.
-- Assumes nothing.
use Rattle.std.specs.Prelude.{ℕ, ltb, Option, Err}
use Rattle.base.specs.Pick.{pick}
use Rattle.rows.specs.declared.Row.{Row}
use Rattle.cursor.specs.Cursor.{queue_most, is_fit, queued_for, queueing}
use Rattle.cursor.specs.declared.Cursor.{Cursor}
use Rattle.lookahead.specs.Seen.{seen_at}
use Rattle.lookahead.specs.Peek.{Peeked, shown_by}
use Rattle.lookahead.specs.declared.LookError.TheVariants.{BadState, QueueFull}

-- the answer, over a list that has room for so many records and shows these
unfoldable pub look_ahead_of : ℕ → (ℕ → Option Row) → Cursor → ℕ → Peeked
look_ahead_of room shown c n =
    pick (is_fit room c)
    (pick (ltb queue_most (queued_for c n)) (Err QueueFull)
    (shown_by (queueing c (queued_for c n)) (seen_at shown c n)))
    (Err BadState)
