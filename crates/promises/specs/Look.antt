-- The promise of `lookahead::look_ahead` (document 02, C-1) over a list in either layout, case by case in the document's order: 8, 7, 9, and then the token; what it leaves
-- to `next`, and that 6 is never given. After a scan, `after_a_scan` of `LookaheadLaws` speaks of it too: there no call gets 8 or 9, `next`
-- hands out the records in order whatever was looked at in between, and a look is the comment's over the Rust's own queue.
-- Assumes nothing.
use Rattle.std.specs.Prelude.{ℕ, ◌+◌, ◌-◌, ◌<◌, ◌≤◌, ◌≡◌, true, false, List, replicate, Some, None}
use Rattle.base.specs.Refusal.{none, peek_too_far, queue_full, bad_state, bad_record}
use Rattle.layout.specs.Layout.{room_in, row_in, fits_in, shown_in}
use Rattle.layout.specs.declared.Layout.{Layout}
use Rattle.cursor.specs.Cursor.{queue_most, is_fit, ahead, queueing}
use Rattle.lookahead.specs.Peek as ofPeek
use Rattle.lookahead.specs.LookAhead.{look_ahead_of}
use Rattle.lookahead.specs.Peek.{Peeked, looked}
use Rattle.cursor.specs.declared.Status.TheVariants.{End, Stuck}
use Rattle.cursor.specs.declared.Cursor.{Cursor}
use Rattle.queue.specs.Calls.{Call, next, peeked_token, peeked_cursor}
use Rattle.promises.specs.Said.{says}
use Rattle.promises.specs.Lookahead.{Unfit, peeked_says, call_on, after_on, UnrefusedOn}

-- what it ensures of its answer
abbrev pub LookAheadEnsures : Layout → List ℕ → Cursor → ℕ → Peeked → Type 0
LookAheadEnsures layout list c n r = r ≡ look_ahead_of (room_in layout list) (shown_in layout list c.count) c n

-- m tokens are to be queued after a look at place n: the larger of what was queued and of n + 1, but at End no more than is left
pub data Lacks (c : Cursor) (n : ℕ) : ℕ → Type 0 where
  nothing : n < c.queued → Lacks c n c.queued
  at_stuck : c.status ≡ Stuck → c.queued ≤ n → Lacks c n (n + 1)
  at_end : c.status ≡ End → c.queued ≤ n → c.taken + n < c.count → Lacks c n (n + 1)
  past_end : c.status ≡ End → c.queued ≤ c.count - c.taken → c.count ≤ c.taken + n → Lacks c n (c.count - c.taken)

-- so many calls of `next`
abbrev pub nexts_of : ℕ → List Call
nexts_of m = replicate m next

-- the cases shut each other out, and leave nothing out
pub record LookAheadPromise (layout : Layout) (list : List ℕ) (c : Cursor) (n : ℕ) (r : Peeked) : Type 0 where
  pub unfit : Unfit layout list c → peeked_says r ≡ says bad_state 0
  -- 7 exactly where more than 65,535 would be queued
  pub full : (Unfit layout list c → ⊥) → (m : ℕ) → Lacks c n m → queue_most < m → peeked_says r ≡ says queue_full 0
  pub nothing_there :
      (Unfit layout list c → ⊥) → (m : ℕ) → Lacks c n m → m ≤ queue_most → c.count ≤ ahead c n → r ≡ looked None (queueing c m)
  pub bad_record_lem :
      (Unfit layout list c → ⊥) → (m : ℕ) → Lacks c n m → m ≤ queue_most → ahead c n < c.count → fits_in layout list c.count (ahead c n) ≡ false
      → peeked_says r ≡ says bad_record (ahead c n)
  pub shown :
      (Unfit layout list c → ⊥) → (m : ℕ) → Lacks c n m → m ≤ queue_most → ahead c n < c.count → fits_in layout list c.count (ahead c n) ≡ true
      → r ≡ looked (Some (row_in layout list (ahead c n))) (queueing c m)
  pub never_too_far : ofPeek.number_of r ≡ peek_too_far → ⊥
  -- after an unrefused look the cursor is fit
  pub fit_after : ofPeek.number_of r ≡ none → is_fit (room_in layout list) (peeked_cursor c r) ≡ true
  -- every sequence of `next` answers the same with and without it
  pub same_next :
      ofPeek.number_of r ≡ none → (m : ℕ)
      → ((call_on layout list c.count (after_on layout list c.count (peeked_cursor c r) (nexts_of m)) next).number ≡ (call_on layout list c.count (after_on layout list c.count c (nexts_of m)) next).number)
      × ((call_on layout list c.count (after_on layout list c.count (peeked_cursor c r) (nexts_of m)) next).token ≡ (call_on layout list c.count (after_on layout list c.count c (nexts_of m)) next).token)
  -- what it shows is what the (n+1)th following `next` hands out, and nothing exactly where that hands out nothing
  pub shows_next :
      ofPeek.number_of r ≡ none → UnrefusedOn layout list c.count c (nexts_of n)
      → peeked_token r ≡ (call_on layout list c.count (after_on layout list c.count c (nexts_of n)) next).token
