-- What an answer of `next` or `peek` tells beside its refusal, number by number: whether a token is shown, its record, and how many tokens
-- are taken and queued after it.
-- Assumes nothing.
use Rattle.std.specs.Prelude.{ℕ, List, [], ◌∷◌, Option, Some, None, Ok, Err}
use Rattle.rows.specs.declared.Row.{Row}
use Rattle.cursor.specs.declared.Cursor.{Cursor}
use Rattle.lookahead.specs.declared.answer.Told.{Told}
use Rattle.lookahead.specs.Next.{Given}
use Rattle.lookahead.specs.Peek.{Peeked}

-- ---- a record

-- what stands for a record where none is shown
abbrev pub no_row : Row
no_row =
    record {
      kind = 0;
      detail = 0;
      start = 0;
      end = 0;
      start_line = 0;
      start_column = 0;
      end_line = 0;
      end_column = 0;
      indent = 0;
      depth = 0;
    }

-- a record's ten numbers, in the order of the struct `Row` and of C's `koto_record`
abbrev pub record_numbers : Row → List ℕ
record_numbers row =
    row.kind ∷ row.detail ∷ row.start ∷ row.end ∷ row.start_line ∷ row.start_column ∷ row.end_line ∷ row.end_column
    ∷ row.indent ∷ row.depth ∷ []

-- ---- what is told

-- a token is shown, and the cursor is the one after it
abbrev pub shown_with : Row → Cursor → Told
shown_with row after = record { shown = 1; row = row; taken = after.taken; queued = after.queued }

-- none is
abbrev pub not_shown : ℕ → ℕ → Told
not_shown taken queued = record { shown = 0; row = no_row; taken = taken; queued = queued }

-- of an answer of `next`, where so many were taken and queued before
abbrev pub given_told : Given → ℕ → ℕ → Told
given_told (Ok (Some handed)) taken queued = shown_with handed.row handed.cursor
given_told (Ok None) taken queued = not_shown taken queued
given_told (Err e) taken queued = not_shown taken queued

-- a token is shown, if there is one, and the cursor is the one after it
abbrev pub look_told : Option Row → Cursor → Told
look_told (Some row) after = shown_with row after
look_told None after = not_shown after.taken after.queued

-- of an answer of `peek`
abbrev pub peeked_told : Peeked → ℕ → ℕ → Told
peeked_told (Ok look) taken queued = look_told look.row look.cursor
peeked_told (Err e) taken queued = not_shown taken queued
