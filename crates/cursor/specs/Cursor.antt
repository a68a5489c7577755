-- Document 01, "Look-ahead": a cursor over a scan's records. lexer.rs's `KotoLexer` has a queue of tokens beside its lexer; here both are
-- numbers over the list. The tokens have places 0, 1, 2 and so on, without end at Stuck: those below `taken` are handed out, and so many as
-- `queued` says are queued from there on. A record is known here by its index alone.
-- Assumes nothing.
use Rattle.std.specs.Prelude.{ℕ, ◌+◌, ◌-◌, Bool, false, ◌&&◌, eqb, leb, ltb}
use Rattle.base.specs.Pick.{pick}
use Rattle.cursor.specs.declared.Status.{Status}
use Rattle.cursor.specs.declared.Status.TheVariants.{End, Stuck}
use Rattle.cursor.specs.declared.Cursor.{Cursor}

-- the most tokens that may be queued
abbrev pub queue_most : ℕ
queue_most = 65535

-- ---- which cursors are fit

-- what each status asks: at End no more is queued than is left, and at Stuck the last record is never taken
abbrev pub fit_by : Cursor → Status → Bool
fit_by c End = leb c.queued (c.count - c.taken)
fit_by c Stuck = ltb c.taken c.count

-- a cursor that is fit for a list with room for so many records (else: refusal 8)
unfoldable pub is_fit : ℕ → Cursor → Bool
is_fit room c =
    pick (ltb room c.count) false
    (pick (ltb c.count c.taken) false
    (pick (ltb queue_most c.queued) false
    (fit_by c c.status)))

-- the cursor of a scan's answer: nothing is taken and nothing queued
abbrev pub start_cursor : ℕ → Status → Cursor
start_cursor count status = record { taken = 0; queued = 0; count = count; status = status }

-- ---- which record each place means

-- where the places stop: at End no record stands there, and at Stuck the last one does
abbrev pub last_place : ℕ → Status → ℕ
last_place count End = count
last_place count Stuck = count - 1

-- the index of the record that a place means: its own, and past the last place that of the last
unfoldable pub record_at : ℕ → Status → ℕ → ℕ
record_at count status place = pick (ltb place (last_place count status)) place (last_place count status)

-- the index of the record that comes after n others
abbrev pub ahead : Cursor → ℕ → ℕ
ahead c n = record_at c.count c.status (c.taken + n)

-- ---- how a cursor moves

-- the cursor after a token was handed out: one more is taken, but never past the last place, and one less is queued, if one was
unfoldable pub moved_on : Cursor → Cursor
moved_on c = record { taken = ahead c 1; queued = c.queued - 1; count = c.count; status = c.status }

-- there is a token past the queued ones
abbrev pub has_more : Cursor → Bool
has_more c = ltb (ahead c c.queued) c.count

-- a token must be queued: n is at most what is queued, and there is one more
unfoldable pub must_queue : Cursor → ℕ → Bool
must_queue c n = leb n c.queued && has_more c

-- the cursor that has queued one more token
unfoldable pub queued_one : Cursor → Cursor
queued_one c = record { taken = c.taken; queued = c.queued + 1; count = c.count; status = c.status }

-- one must be, and no more may be
unfoldable pub is_full : Cursor → ℕ → Bool
is_full c n = must_queue c n && eqb c.queued queue_most

-- the cursor that has queued it, where one must be
unfoldable pub queued_past : Cursor → ℕ → Cursor
queued_past c n = pick (must_queue c n) (queued_one c) c

-- ---- document 02, C-1: what a look at place n queues

-- how many of m tokens are there, where so many records are left: at End no more than those
abbrev pub there_of : ℕ → Status → ℕ → ℕ
there_of left End m = pick (ltb left m) left m
there_of left Stuck m = m

-- of m tokens from the cursor on
abbrev pub there : Cursor → ℕ → ℕ
there c m = there_of (c.count - c.taken) c.status m

-- how many are queued for it: so many as were, or n + 1 of those that are there, whichever is larger
unfoldable pub queued_for : Cursor → ℕ → ℕ
queued_for c n = pick (ltb c.queued (there c (n + 1))) (there c (n + 1)) c.queued

-- the cursor that has so many queued
abbrev pub queueing : Cursor → ℕ → Cursor
queueing c m = record { taken = c.taken; queued = m; count = c.count; status = c.status }
