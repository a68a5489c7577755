-- The cases that document 01 marks P in "Scripts and format strings to try", as one table: each is a call with its bytes, and what that
-- gives. `CasesLaws.all_cases` proves all of them, over the definitions that the contracts cite. Bytes are decoded and looked up in the
-- small table, and clusters go by edition 2.
-- Assumes nothing.
use Rattle.std.specs.Prelude.{ℕ, List, [], ◌∷◌, replicate, Option, Some, None, Result, Ok, Err}
use Rattle.fitness.specs.Small.{small_table}
use Rattle.input.specs.Input.{with_gb9c}
use Rattle.token.specs.Kind.{error, comment_multi, id, string_start, string_end, string_literal, dot, else, else_if}
use Rattle.rows.specs.declared.Row.{Row}
use Rattle.words.specs.Words.{bytes}
use Rattle.pool_rows.specs.Rows.{strings_of}
use Rattle.format_options.specs.declared.Alignment.TheVariants.{Default}
use Rattle.format_options.specs.declared.Part.{Part}
use Rattle.parse.specs.Call as parse
use Rattle.parse.specs.Call.{Pool, lent}
use Rattle.parse.specs.declared.Parsed.{Parsed}
use Rattle.parse.specs.declared.ParseError.{ParseError}
use Rattle.parse.specs.declared.ParseError.TheVariants.{FormatNumberIsTooLarge, UnexpectedToken}
use Rattle.reading.specs.Scan.{scanned, written}
use Rattle.reading.specs.Scan.{Scanned}
use Rattle.reading.specs.declared.Scan.TheVariants.{End, Stuck}

-- ---- what a case is

-- a call and its bytes
pub data Call : Type 0 where
  -- a scan with the small table, into a list that has the list program's room
  scan : List ℕ → Call
  -- a format string parsed with the small table, and an empty pool of 64 entries and 1,024 bytes
  format : List ℕ → Call

-- what a call gives
pub data Gives : Type 0 where
  -- a scan's answer, and the records that it writes
  records : Scanned → List Row → Gives
  -- a parse's answer, and the strings of the pool after it
  options : Result Parsed ParseError → List (List ℕ) → Gives

pub record Case : Type 0 where
  pub call : Call
  pub gives : Gives

-- how many records the list program has room for
abbrev pub list_room : ℕ
list_room = 1365

-- an empty pool of 64 entries and 1,024 bytes
abbrev pub empty_pool : Pool
empty_pool = lent (replicate 1024 0) (replicate 128 0) (record { entries = 0; bytes = 0 })

-- the strings of a pool
abbrev pub strings_in : Pool → List (List ℕ)
strings_in p = strings_of p.bytes p.entries p.counts.entries

-- what the definitions give for a call
abbrev pub run : Call → Gives
run (scan source) = records (scanned source small_table with_gb9c list_room) (written source small_table with_gb9c list_room)
run (format text) = options (parse.call text small_table with_gb9c empty_pool).answer (strings_in (parse.call text small_table with_gb9c empty_pool).pool)

-- what the definitions give for a case, and what the case says
abbrev pub ran : Case → Gives
ran c = run c.call

abbrev pub want : Case → Gives
want c = c.gives

-- ---- how a case is written

-- a scan of these bytes, its answer and its records
abbrev scans : List ℕ → Scanned → List Row → Case
scans source answer rows = record { call = scan source; gives = records answer rows }

-- a format string, its answer and the pool's strings
abbrev parses : List ℕ → Result Parsed ParseError → List (List ℕ) → Case
parses text answer strings = record { call = format text; gives = options answer strings }

-- options with default alignment, no precision and no representation: a width, a fill and its index
abbrev plain : Option ℕ → Option Part → Option ℕ → Result Parsed ParseError
plain width fill index =
    Ok (record {
      options = record { alignment = Default; width = width; precision = None; representation = None; fill = fill };
      index = index;
    })

-- a record by its ten numbers, in the order in which the list program prints them: kind, detail, byte start, byte end, start line, start
-- column, end line, end column, indent, depth
abbrev row : ℕ → ℕ → ℕ → ℕ → ℕ → ℕ → ℕ → ℕ → ℕ → ℕ → Row
row kind detail start end startLine startColumn endLine endColumn indent depth =
    record {
      kind = kind;
      detail = detail;
      start = start;
      end = end;
      start_line = startLine;
      start_column = startColumn;
      end_line = endLine;
      end_column = endColumn;
      indent = indent;
      depth = depth;
    }

-- ---- the table

-- document 01 names statuses, kinds and byte ranges; the numbers that it leaves out are those that koto's lexer gave, asked by
-- `oracle tokens --table small.kpt`
abbrev pub cases : List Case
cases =
    -- the empty source
    scans [] (Ok (End 0 0)) []
    -- "\r": an Error that stands still
    ∷ scans (13 ∷ []) (Ok (Stuck 1 0)) (row error 0 0 0 0 0 0 0 0 0 ∷ [])
    ∷ scans (bytes "#-#") (Ok (End 1 3)) (row comment_multi 0 0 3 0 0 0 3 0 0 ∷ [])
    -- a raw string with no hashes has detail 2
    ∷ scans (bytes "r\"\"") (Ok (End 3 3))
    (row string_start 2 0 2 0 0 0 2 0 0 ∷ row string_literal 0 2 2 0 2 0 2 0 1 ∷ row string_end 0 2 3 0 2 0 3 0 1 ∷ [])
    ∷ scans (bytes "else iffy") (Ok (End 2 9)) (row else_if 0 0 7 0 0 0 7 0 0 ∷ row id 0 7 9 0 7 0 9 0 0 ∷ [])
    -- behind a dot "if" is a name, and "else" is not
    ∷ scans (bytes "x.if") (Ok (End 3 4)) (row id 0 0 1 0 0 0 1 0 0 ∷ row dot 0 1 2 0 1 0 2 0 0 ∷ row id 0 2 4 0 2 0 4 0 0 ∷ [])
    ∷ scans (bytes "x.else") (Ok (End 3 6)) (row id 0 0 1 0 0 0 1 0 0 ∷ row dot 0 1 2 0 1 0 2 0 0 ∷ row else 0 2 6 0 2 0 6 0 0 ∷ [])
    -- U+6F22 U+5B57: the first letter of a name counts one column, whatever its width
    ∷ scans (0xe6 ∷ 0xbc ∷ 0xa2 ∷ 0xe5 ∷ 0xad ∷ 0x97 ∷ []) (Ok (End 1 6)) (row id 0 0 6 0 0 0 3 0 0 ∷ [])
    -- U+20AC: an unknown symbol advances one byte, and inside a character nothing is left to read
    ∷ scans (0xe2 ∷ 0x82 ∷ 0xac ∷ []) (Ok (End 1 1)) (row error 0 0 1 0 0 0 1 0 0 ∷ [])
    -- no format options: all defaults
    ∷ parses [] (plain None None None) []
    -- a dot with nothing after it is a fill
    ∷ parses (bytes ".") (plain None (Some (record { place = 0; len = 1 })) (Some 0)) (bytes "." ∷ [])
    ∷ parses (bytes "5.") (Err (UnexpectedToken 46)) []
    -- the fill "0" points at its last zero, and the pool has it once
    ∷ parses (bytes "000") (plain (Some 0) (Some (record { place = 1; len = 1 })) (Some 0)) (bytes "0" ∷ [])
    ∷ parses (bytes "4294967296") (Err (FormatNumberIsTooLarge 4294967296)) []
    ∷ []
