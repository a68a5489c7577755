-- Document 02, C-7: which records of an old list are kept. A line of its source is edited that starts at the byte `line`, and t is the new
-- source. "Records are kept only if they chain from zero in bytes and spans, no end before its start, and the last of them is a NewLine
-- record of depth 0 over a newline of the new source, with end column 0 and end line at most its byte end."
-- Assumes nothing.
use Rattle.std.specs.Prelude.{ℕ, zero, suc, ◌+◌, ◌≤◌, ◌<◌, ◌≡◌, Bool, true, ◌&&◌, ◌||◌, List, eqb, leb, ltb, get_or}
use Rattle.base.specs.Pick.{pick}
use Rattle.token.specs.Kind.{new_line, no_token}
use Rattle.rows.specs.Row.{row_at, first_at}
use Rattle.rows.specs.declared.Row.{Row}
use Rattle.text.specs.Tests.{lf, cr}

-- ---- neighbours

-- what stands before the first record: nothing, which ends where a source begins
abbrev pub no_row : Row
no_row =
    record {
      kind = no_token;
      detail = 0;
      start = 0;
      end = 0;
      start_line = 0;
      start_column = 0;
      end_line = 0;
      end_column = 0;
      indent = 0;
      depth = 0;
    }

-- what stands before record i
abbrev pub row_before : List ℕ → ℕ → Row
row_before list zero = no_row
row_before list (suc i) = row_at list i

-- a record starts where the one before it ends, in bytes and in its span
abbrev pub chained : Row → Row → Bool
chained before r =
    eqb r.start before.end && (eqb r.start_line before.end_line && eqb r.start_column before.end_column)

-- and does not end before it starts, in bytes and in its span: by the line, then by the column
abbrev pub forward : Row → Bool
forward r =
    leb r.start r.end
    && (ltb r.start_line r.end_line
    || (eqb r.start_line r.end_line && leb r.start_column r.end_column))

-- both, of record i
unfoldable pub links : List ℕ → ℕ → Bool
links list i = chained (row_before list i) (row_at list i) && forward (row_at list i)

-- ---- the last

-- a record stands over "\n" or "\r\n" of t
abbrev pub over_newline : List ℕ → Row → Bool
over_newline t r =
    pick (eqb r.end (r.start + 1)) (eqb (get_or t r.start 0) lf)
    (eqb r.end (r.start + 2) && (eqb (get_or t r.start 0) cr && eqb (get_or t (r.start + 1) 0) lf))

-- a record with this first number may be the last: it ends where the line starts, is a NewLine of depth 0 and nothing else, and stands over
-- a newline, with end column 0 and end line at most its byte end
unfoldable pub closes : List ℕ → ℕ → ℕ → Row → Bool
closes t line first r =
    eqb r.end line
    && (eqb first new_line && (eqb r.end_column 0 && (leb r.end_line r.end && over_newline t r)))

-- ---- the records

-- the first k + 1 records of a list are kept: record k is the first that ends at the line's start or behind it
pub record Keeps (t : List ℕ) (line : ℕ) (list : List ℕ) (count k : ℕ) : Type 0 where
  pub listed : k < count
  pub before : (j : ℕ) → j < k → (row_at list j).end < line
  pub linked : (j : ℕ) → j ≤ k → links list j ≡ true
  pub last : closes t line (first_at list k) (row_at list k) ≡ true

-- how many are kept, where i were looked at and `left` were not
abbrev pub kept_from : List ℕ → ℕ → List ℕ → ℕ → ℕ → ℕ
kept_from t line list zero i = 0
kept_from t line list (suc left) i =
    pick (links list i)
    (pick (ltb (row_at list i).end line) (kept_from t line list left (i + 1))
    (pick (closes t line (first_at list i) (row_at list i)) (i + 1) 0))
    0

-- how many of so many records are kept; none if there is no such k (`KeepLaws` has that it says exactly this)
unfoldable pub kept_rows : List ℕ → ℕ → List ℕ → ℕ → ℕ
kept_rows t line list count = kept_from t line list count 0
