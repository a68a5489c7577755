-- What `koto_next`, `koto_peek` and `koto_look_ahead` return and write, from the inner calls' answers. A cursor goes in as its numbers, with the status as
-- `koto_scan` or `koto_scan_half` writes it, so that it tells the list's layout; any other number there is refusal 8, before the list is looked at.
-- Assumes nothing.
use Rattle.std.specs.Prelude.{ℕ, ◌≡◌, List, eqb, Option, Some, None, Err}
use Rattle.base.specs.Pick.{pick}
use Rattle.reading.specs.Status.{end_number, stuck_number, end_half_number, stuck_half_number}
use Rattle.lookahead.specs.Told.{record_numbers, given_told, peeked_told}
use Rattle.rows.specs.declared.Row.{Row}
use Rattle.layout.specs.Layout.{room_in, shown_in}
use Rattle.layout.specs.declared.Layout.{Layout}
use Rattle.layout.specs.declared.Layout.TheVariants.{Whole, Half}
use Rattle.lookahead.specs.Next as next
use Rattle.lookahead.specs.Next.{next_of, Given}
use Rattle.lookahead.specs.Peek as peek
use Rattle.lookahead.specs.Peek.{peek_of, Peeked}
use Rattle.lookahead.specs.LookAhead.{look_ahead_of}
use Rattle.lookahead.specs.declared.NextError.TheVariants as given
use Rattle.lookahead.specs.declared.LookError.TheVariants as peeked
use Rattle.cursor.specs.declared.Status.{Status}
use Rattle.cursor.specs.declared.Status.TheVariants.{End, Stuck}
use Rattle.cursor.specs.declared.Cursor.{Cursor}

-- ---- the numbers of a cursor

-- the layout and the status that a number names, as the scans write it
abbrev pub names : ℕ → Option (Layout × Status)
names number =
    pick (eqb number end_number) (Some (Whole, End))
    (pick (eqb number stuck_number) (Some (Whole, Stuck))
    (pick (eqb number end_half_number) (Some (Half, End))
    (pick (eqb number stuck_half_number) (Some (Half, Stuck)) None)))

-- by what is named; y is for every other number
abbrev pub by_named : {A : Type 0} → (Layout → Status → A) → A → Option (Layout × Status) → A
by_named f y (Some named) = f named.0 named.1
by_named f y None = y

abbrev pub by_status : {A : Type 0} → (Layout → Status → A) → A → ℕ → A
by_status f y number = by_named f y (names number)

abbrev pub cursor_of : ℕ → ℕ → ℕ → Status → Cursor
cursor_of taken queued count status = record { taken = taken; queued = queued; count = count; status = status }

-- ---- an answer, told

-- what is written where a token is shown or none is (`shows`, and the record of the one), for a call that returns this number and tells this place
pub record ShownIs (shows : ℕ) (row : Row) (number at shown : ℕ) (words : List ℕ) (place r : ℕ) : Type 0 where
  pub number_is : r ≡ number
  pub shown_is : shown ≡ shows
  pub words_are : words ≡ record_numbers row
  pub place_is : place ≡ at

-- ---- `next`

-- the answer for these numbers
abbrev pub next_by : List ℕ → ℕ → ℕ → ℕ → ℕ → Given
next_by list taken queued count status =
    by_status (λ (l : Layout) (x : Status). next_of (room_in l list) (shown_in l list count) (cursor_of taken queued count x)) (Err given.BadState) status

-- what a call over these numbers ensures that answers so
pub record GivenIs (given : Given) (taken queued newTaken newQueued shown : ℕ) (words : List ℕ) (place r : ℕ) : Type 0 where
  pub number : r ≡ next.number_of given
  pub taken_is : newTaken ≡ (given_told given taken queued).taken
  pub queued_is : newQueued ≡ (given_told given taken queued).queued
  pub shown_is : shown ≡ (given_told given taken queued).shown
  pub words_are : words ≡ record_numbers (given_told given taken queued).row
  pub place_is : place ≡ next.place_of given

-- what `koto_next` ensures
abbrev pub NextIs : List ℕ → ℕ → ℕ → ℕ → ℕ → ℕ → ℕ → ℕ → List ℕ → ℕ → ℕ → Type 0
NextIs list taken queued count status = GivenIs (next_by list taken queued count status) taken queued

-- ---- `peek` and `look_ahead`

-- what a call over these numbers ensures that answers so
pub record LookedIs (looked : Peeked) (taken queued newQueued shown : ℕ) (words : List ℕ) (place r : ℕ) : Type 0 where
  pub number : r ≡ peek.number_of looked
  pub queued_is : newQueued ≡ (peeked_told looked taken queued).queued
  pub shown_is : shown ≡ (peeked_told looked taken queued).shown
  pub words_are : words ≡ record_numbers (peeked_told looked taken queued).row
  pub place_is : place ≡ peek.place_of looked

-- the answer of `peek` for these numbers
abbrev pub peek_by : List ℕ → ℕ → ℕ → ℕ → ℕ → ℕ → Peeked
peek_by list taken queued count status n =
    by_status (λ (l : Layout) (x : Status). peek_of (room_in l list) (shown_in l list count) (cursor_of taken queued count x) n) (Err peeked.BadState) status

-- what `koto_peek` ensures
abbrev pub PeekIs : List ℕ → ℕ → ℕ → ℕ → ℕ → ℕ → ℕ → ℕ → List ℕ → ℕ → ℕ → Type 0
PeekIs list taken queued count status n = LookedIs (peek_by list taken queued count status n) taken queued

-- the answer of `look_ahead` for these numbers
abbrev pub look_by : List ℕ → ℕ → ℕ → ℕ → ℕ → ℕ → Peeked
look_by list taken queued count status n =
    by_status (λ (l : Layout) (x : Status). look_ahead_of (room_in l list) (shown_in l list count) (cursor_of taken queued count x) n) (Err peeked.BadState) status

-- what `koto_look_ahead` ensures
abbrev pub LookAheadIs : List ℕ → ℕ → ℕ → ℕ → ℕ → ℕ → ℕ → ℕ → List ℕ → ℕ → ℕ → Type 0
LookAheadIs list taken queued count status n = LookedIs (look_by list taken queued count status n) taken queued
