-- A record that a list has already (document 02, C-9): each of its numbers is the one that stands there.
-- Assumes nothing.
use Rattle.std.specs.Prelude.{Bool, ◌&&◌, List, ℕ, eqb}
use Rattle.rows.specs.First.{first_of}
use Rattle.rows.specs.Row.{first_at, row_at}
use Rattle.rows.specs.declared.Row.{Row}

-- two records have one span
unfoldable pub is_span : Row → Row → Bool
is_span r there =
    eqb r.start_line there.start_line
    && (eqb r.start_column there.start_column
    && (eqb r.end_line there.end_line
    && eqb r.end_column there.end_column))

-- a record is the one that has this first number, and else what this one has: bytes, span and indent
abbrev pub is_one : ℕ → Row → Row → Bool
is_one first there r =
    eqb (first_of r) first
    && (eqb r.start there.start
    && (eqb r.end there.end
    && (is_span r there
    && eqb r.indent there.indent)))

-- record i of a list is this one, number by number
unfoldable pub is_row : List ℕ → ℕ → Row → Bool
is_row list i r = is_one (first_at list i) (row_at list i) r
