-- Document 01, "Look-ahead": what a cursor sees. Of a list it is asked for how many records it has room (`room`), and what it shows at an
-- index (`shown`); the layouts of its records are known in the crate `layout`.
-- Assumes nothing.
use Rattle.std.specs.Prelude.{ℕ, ltb, Option, Some, None, Result, Ok, Err}
use Rattle.base.specs.Pick.{pick}
use Rattle.rows.specs.declared.Row.{Row}
use Rattle.cursor.specs.Cursor.{ahead}
use Rattle.cursor.specs.declared.Cursor.{Cursor}

-- what is seen of a record that is there: the record, or its index where it may not be shown (refusal 9)
abbrev pub seen_by : ℕ → Option Row → Result (Option Row) ℕ
seen_by i (Some row) = Ok (Some row)
seen_by i None = Err i

-- the token that comes after n others, if there is one
unfoldable pub seen_at : (ℕ → Option Row) → Cursor → ℕ → Result (Option Row) ℕ
seen_at shown c n = pick (ltb (ahead c n) c.count) (seen_by (ahead c n) (shown (ahead c n))) (Ok None)
