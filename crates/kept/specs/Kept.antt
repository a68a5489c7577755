-- Document 02, C-7, of readings: which records are kept, what two sources share that begin with the same bytes up to a newline, and the state
-- from which reading goes on behind a record.
-- Assumes nothing.
use Rattle.std.specs.Prelude.{ℕ, suc, ◌+◌, ◌≤◌, ◌<◌, ◌≡◌, List, [], ◌∷◌, length, get_or, take}
use Rattle.base.specs.Refusal.{source_most}
use Rattle.position.specs.declared.Place.{Place}
use Rattle.input.specs.Input.{Readable}
use Rattle.token.specs.Kind.{new_line}
use Rattle.token.specs.declared.Token.{Token}
use Rattle.rows.specs.Row.{rows_of}
use Rattle.rows.specs.declared.Row.{Row}
use Rattle.text.specs.Tests.{lf}
use Rattle.state.specs.State.{start_state}
use Rattle.state.specs.declared.Lexer.{Lexer}
use Rattle.state.specs.declared.State.{State}
use Rattle.stepping.specs.Invariant.{Ok}
use Rattle.stepping.specs.JoinsLaws.{lexer_after}
use Rattle.reading.specs.Reading.{Reading, row_of, onto, read_from}
use Rattle.reading.specs.Scan.{reading_of}

-- some records in front of a reading
abbrev pub onto_all : List Row → Reading → Reading
onto_all [] r = r
onto_all (row ∷ rows) r = onto row (onto_all rows r)

-- the last of some records; d where there is none
abbrev pub last_of : Row → List Row → Row
last_of d [] = d
last_of d (row ∷ rows) = last_of row rows

-- records up to a newline at the byte n: the last is a NewLine, and the others end before it or at it
abbrev pub UpTo : ℕ → List Row → Type 0
UpTo n [] = ⊥
UpTo n (row ∷ []) = row.kind ≡ new_line
UpTo n (row ∷ next ∷ rows) = (row.end ≤ n) × UpTo n (next ∷ rows)

-- from a state on, s and t begin with the same records, up to a NewLine, and come to the same state
pub record Shares (look : ℕ → ℕ) (edition : ℕ) (s t : List ℕ) (st : State) (kept : List Row) : Type 0 where
  pub state : State
  pub first : read_from look edition s st ≡ onto_all kept (read_from look edition s state)
  pub second : read_from look edition t st ≡ onto_all kept (read_from look edition t state)
  pub ok : Ok s state
  pub also : Ok t state
  -- the last record is that of this token, between this lexer and that state, and it changes no mode
  pub token : Token
  pub before : Lexer
  pub last : (d : Row) → last_of d kept ≡ row_of token before state.lexer
  pub previous : state.lexer.previous_token ≡ token.kind
  pub depth : state.modes.depth ≡ before.depth

-- ---- reading on

-- the place that a record fixes
abbrev pub place_of : Row → Place
place_of r =
    record {
      previous_byte = record { 0 = r.start };
      current_byte = record { 0 = r.end };
      span = record {
        start = record { line = r.start_line; column = record { 0 = r.start_column } };
        end = record { line = r.end_line; column = record { 0 = r.end_column } };
      };
    }

-- the state behind a record, with no modes
abbrev pub resumed : Row → State
resumed r = record { lexer = lexer_after (place_of r) r.indent r.kind; modes = start_state.modes }

-- a record behind which reading may go on in a source, whoever made it: it ends behind the newline that stands behind the bytes a, at the start
-- of a line
pub record ResumesIn (a : List ℕ) (r : Row) : Type 0 where
  pub ends : r.end ≡ length a + 1
  pub on : r.start ≤ r.end
  pub lines : r.end_line ≤ r.end
  pub columns : r.end_column ≡ 0

-- ---- the old list and the edit

-- the first so many records of a list are those with which the reading of a source begins
pub record OldList (s table : List ℕ) (edition : ℕ) (list : List ℕ) (count : ℕ) : Type 0 where
  pub readable : Readable source_most s table edition
  pub rows : rows_of count list ≡ take count (reading_of s table edition).rows

-- s is the old source and t the new one: they have the same bytes up to a newline at the byte n, and with it
pub record Edited (s t : List ℕ) (n : ℕ) : Type 0 where
  pub inside : n < length s
  pub also : n < length t
  pub newline : get_or s n 0 ≡ lf
  pub same : take (suc n) s ≡ take (suc n) t

-- record k of some is a NewLine of depth 0, before which each ends before the newline's end
pub record KeptTo (rows : List Row) (n k : ℕ) (d : Row) : Type 0 where
  pub before : (j : ℕ) → j < k → (get_or rows j d).end < n + 1
  pub newline : (get_or rows k d).kind ≡ new_line
  pub depth : (get_or rows k d).depth ≡ 0
