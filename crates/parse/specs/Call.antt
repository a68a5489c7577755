-- The public call `parse`: string_format_options.rs `StringFormatOptions::parse` with its pool, in one pass, as the Rust has it. Document
-- 01's refusals 1, 2, 3, 8 come before it, in this order, with document 02's 17 after 1 and 15 in the place of 3, and write nothing; 10 to 12
-- are the Rust's errors, and 13 is an addition without room, which ends the parse. Strings added before stay.
-- Assumes nothing.
use Rattle.std.specs.Prelude.{ℕ, ◌≡◌, Bool, true, false, List, Option, Some, None, Result, Ok, Err}
use Rattle.base.specs.Pick.{pick}
use Rattle.base.specs.Refusal.{none, bad_state, expected_number, format_number_is_too_large, unexpected_token, pool_full, format_most}
use Rattle.utf8.specs.Chars.{chars}
use Rattle.property.specs.Table.{properties_at}
use Rattle.input.specs.Input as input
use Rattle.input.specs.Input.{input_check, on_input}
use Rattle.input.specs.declared.Refusal.{Refusal}
use Rattle.pool_rows.specs.Rows.{fit_pool}
use Rattle.pool.specs.Pool.{added, bytes_after, entries_after}
use Rattle.pool_rows.specs.declared.Counts.{Counts}
use Rattle.pool.specs.declared.Added.{Added}
use Rattle.pool.specs.declared.AddError.{AddError}
use Rattle.pool.specs.declared.AddError.TheVariants as pool
use Rattle.format.specs.Parse as form
use Rattle.format.specs.Parse.{parse_with, string_of}
use Rattle.format_options.specs.declared.Options.{Options}
use Rattle.format_options.specs.declared.FormatError.TheVariants as outcome
use Rattle.format_options.specs.declared.FormatError.{FormatError}
use Rattle.parse.specs.declared.Adding.{Adding}
use Rattle.parse.specs.declared.After.{After}
use Rattle.parse.specs.declared.Parsed.{Parsed}
use Rattle.parse.specs.declared.ParseError.{ParseError}
use Rattle.parse.specs.declared.ParseError.TheVariants.{Refused, BadState, ExpectedNumber, FormatNumberIsTooLarge, UnexpectedToken, PoolFull}

-- ---- the pool in a parse

-- the pool's rows and counts, the index that the last addition answered, and whether an addition found no room
pub record Pool : Type 0 where
  pub bytes : List ℕ
  pub entries : List ℕ
  pub counts : Counts
  pub index : Option ℕ
  pub full : Bool

abbrev pub pooled : List ℕ → List ℕ → Adding → Pool
pooled bytes entries a = record { bytes = bytes; entries = entries; counts = a.counts; index = a.index; full = a.full }

-- what has been added, after an addition that answered so; a refusal of the string or of the pool leaves it
abbrev pub adding_after : Adding → Result Added AddError → Adding
adding_after a (Ok added) = record { counts = added.counts; index = Some added.index; full = false }
adding_after a (Err pool.PoolFull) = record { counts = a.counts; index = a.index; full = true }
adding_after a (Err (pool.BadUtf8 place)) = a
adding_after a (Err (pool.CutUtf8 place)) = a
adding_after a (Err pool.BadState) = a

-- what an addition of the string x makes of the pool
abbrev pub on_added : Pool → List ℕ → Result Added AddError → Pool
on_added p x (Ok added) =
    record {
      bytes = bytes_after x p.counts (Ok added) p.bytes;
      entries = entries_after x p.counts (Ok added) p.entries;
      counts = added.counts;
      index = Some added.index;
      full = false;
    }
on_added p x (Err pool.PoolFull) = record { bytes = p.bytes; entries = p.entries; counts = p.counts; index = p.index; full = true }
on_added p x (Err (pool.BadUtf8 place)) = p
on_added p x (Err (pool.CutUtf8 place)) = p
on_added p x (Err pool.BadState) = p

-- `add_string_constant(..)?`: the first addition without room ends the parse, so nothing is added after it
unfoldable pub add_to : Pool → List ℕ → Pool
add_to p x = pick p.full p (on_added p x (added x p.bytes p.entries p.counts))

-- the pool that is lent
abbrev pub lent : List ℕ → List ℕ → Counts → Pool
lent bytes entries counts = record { bytes = bytes; entries = entries; counts = counts; index = None; full = false }

-- ---- the answer

-- an error of the reading, under the documents' name
abbrev pub error_of : FormatError → ParseError
error_of (outcome.ExpectedNumber c) = ExpectedNumber c
error_of (outcome.TooLarge n) = FormatNumberIsTooLarge n
error_of (outcome.UnexpectedToken c) = UnexpectedToken c

abbrev pub on_outcome : Result Unit FormatError → Options → Option ℕ → Result Parsed ParseError
on_outcome (Ok u) options index = Ok (record { options = options; index = index })
on_outcome (Err e) options index = Err (error_of e)

-- an addition without room came before every error that is found later
abbrev pub answer_of : Options → Result Unit FormatError → Option ℕ → Bool → Result Parsed ParseError
answer_of options outcome index full = pick full (Err PoolFull) (on_outcome outcome options index)

-- the parse of a format string, in one pass
unfoldable pub parsed : List ℕ → List ℕ → ℕ → Pool → form.OnePass Pool
parsed format table edition p = parse_with (λ q part. add_to q (string_of format part)) (properties_at table) edition p (chars format)

abbrev pub answer : form.OnePass Pool → Result Parsed ParseError
answer r = answer_of r.options r.outcome r.pool.index r.pool.full

-- ---- the call

-- what a call comes to: its answer, and the pool after it
pub record Comes : Type 0 where
  pub answer : Result Parsed ParseError
  pub pool : Pool

abbrev pub comes : Result Parsed ParseError → Pool → Comes
comes r p = record { answer = r; pool = p }

-- refusals 1, 17, 2, 3 or 15, 8 in this order, each of which leaves the pool, and then the parse
unfoldable pub call : List ℕ → List ℕ → ℕ → Pool → Comes
call format table edition p =
    on_input (λ (x : Refusal). comes (Err (Refused x)) p) (input_check format_most format table edition)
    (pick (fit_pool p.bytes p.entries p.counts)
    (comes (answer (parsed format table edition p)) (parsed format table edition p).pool)
    (comes (Err BadState) p))

-- what `parse` ensures: its answer, and the counts and every word of both rows after it
pub record Parses (format table : List ℕ) (edition : ℕ) (bytes entries : List ℕ) (counts : Counts) (new_bytes new_entries : List ℕ) (r : After) : Type 0 where
  pub answer_is : r.answer ≡ (call format table edition (lent bytes entries counts)).answer
  pub counts_left : r.counts ≡ (call format table edition (lent bytes entries counts)).pool.counts
  pub bytes_left : new_bytes ≡ (call format table edition (lent bytes entries counts)).pool.bytes
  pub entries_left : new_entries ≡ (call format table edition (lent bytes entries counts)).pool.entries

-- ---- the documents' numbers of an answer

abbrev pub number_of : Result Parsed ParseError → ℕ
number_of (Ok r) = none
number_of (Err (Refused x)) = input.number_of x
number_of (Err BadState) = bad_state
number_of (Err (ExpectedNumber c)) = expected_number
number_of (Err (FormatNumberIsTooLarge n)) = format_number_is_too_large
number_of (Err (UnexpectedToken c)) = unexpected_token
number_of (Err PoolFull) = pool_full

-- the refusal's place or value
abbrev pub value_of : Result Parsed ParseError → ℕ
value_of (Ok r) = 0
value_of (Err (Refused x)) = input.place_of x
value_of (Err BadState) = 0
value_of (Err (ExpectedNumber c)) = c
value_of (Err (FormatNumberIsTooLarge n)) = n
value_of (Err (UnexpectedToken c)) = c
value_of (Err PoolFull) = 0
