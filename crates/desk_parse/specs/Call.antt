-- Document 02, C-12: a format parse for a desk. It is the parse of `parse/specs/Call` in which each addition is one for the desk, one after the
-- other. Refusals 1, 17, 2, 3 or 15, 8 come first, in this order, and leave everything; strings added before 10 to 13 stay.
-- Assumes nothing.
use Rattle.std.specs.Prelude.{ℕ, ◌≡◌, List, Bool, true, false, Option, Some, None, Result, Err, Ok}
use Rattle.base.specs.Pick.{pick}
use Rattle.base.specs.Refusal.{format_most}
use Rattle.utf8.specs.Chars.{chars}
use Rattle.property.specs.Table.{properties_at}
use Rattle.input.specs.Input.{input_check, on_input}
use Rattle.input.specs.declared.Refusal.{Refusal}
use Rattle.pool.specs.declared.Added.{Added}
use Rattle.pool.specs.declared.AddError.{AddError}
use Rattle.pool.specs.declared.AddError.TheVariants as pool
use Rattle.format.specs.Parse.{OnePass, parse_with, string_of}
use Rattle.parse.specs.Call.{answer_of}
use Rattle.parse.specs.declared.Parsed.{Parsed}
use Rattle.parse.specs.declared.ParseError.{ParseError}
use Rattle.parse.specs.declared.ParseError.TheVariants.{Refused, BadState}
use Rattle.desks.specs.Desks.{Shared, fit_desks}
use Rattle.desks.specs.declared.Which.{Which}
use Rattle.desk_add.specs.Add.{added_for, shared_after}
use Rattle.desk_parse.specs.declared.ParsedFor.{ParsedFor}

-- the shared pool in a parse, the index that the last addition answered, and whether an addition found no room
pub record Pool : Type 0 where
  pub state : Shared
  pub index : Option ℕ
  pub full : Bool

-- the one that is lent
abbrev pub lent : Shared → Pool
lent s = record { state = s; index = None; full = false }

-- what an addition of the string x makes of it
abbrev pub on_added : Which → Pool → List ℕ → Result Added AddError → Pool
on_added which p x (Ok added) =
    record { state = shared_after which p.state x (Ok added); index = Some added.index; full = false }
on_added which p x (Err pool.PoolFull) = record { state = p.state; index = p.index; full = true }
on_added which p x (Err (pool.BadUtf8 place)) = p
on_added which p x (Err (pool.CutUtf8 place)) = p
on_added which p x (Err pool.BadState) = p

-- the first addition without room ends the parse, so nothing is added after it
unfoldable pub add_to : Which → Pool → List ℕ → Pool
add_to which p x = pick p.full p (on_added which p x (added_for which p.state x))

-- the parse of a format string, in one pass
unfoldable pub parsed : List ℕ → List ℕ → ℕ → Which → Shared → OnePass Pool
parsed format table edition which s =
    parse_with (λ q part. add_to which q (string_of format part)) (properties_at table) edition (lent s) (chars format)

-- what a call comes to: its answer, and the shared pool after it
pub record Comes : Type 0 where
  pub answer : Result Parsed ParseError
  pub state : Shared

abbrev pub comes : Result Parsed ParseError → Shared → Comes
comes r s = record { answer = r; state = s }

abbrev pub ended : OnePass Pool → Comes
ended r = comes (answer_of r.options r.outcome r.pool.index r.pool.full) r.pool.state

unfoldable pub call : List ℕ → List ℕ → ℕ → Which → Shared → Comes
call format table edition which s =
    on_input (λ (x : Refusal). comes (Err (Refused x)) s) (input_check format_most format table edition)
    (pick (fit_desks s) (ended (parsed format table edition which s)) (comes (Err BadState) s))

-- what `parse` ensures: its answer, and the counts, the desks and every word of the rows after it
pub record ParsesFor (format table : List ℕ) (edition : ℕ) (which : Which) (s : Shared) (new_bytes new_entries newOwners : List ℕ) (r : ParsedFor)
    : Type 0 where
  pub answer_is : r.answer ≡ (call format table edition which s).answer
  pub counts_left : r.counts ≡ (call format table edition which s).state.counts
  pub desks_left : r.desks ≡ (call format table edition which s).state.desks
  pub bytes_left : new_bytes ≡ (call format table edition which s).state.bytes
  pub entries_left : new_entries ≡ (call format table edition which s).state.entries
  pub owners_left : newOwners ≡ (call format table edition which s).state.owners
