-- How a parse goes, in the flat form and in the long one: what is known before the pool is written to, the strings that are then added, at
-- most two, and the answer from both. No public contract cites it.
-- Assumes nothing.
use Rattle.std.specs.Prelude.{ℕ, ◌≡◌, Bool, true, false, not, ◌&&◌, is_some, List, [], Option, Some, None, Result, Ok, Err}
use Rattle.base.specs.Pick.{pick}
use Rattle.base.specs.Refusal.{format_most}
use Rattle.utf8.specs.Chars.{chars}
use Rattle.property.specs.Table.{properties_at}
use Rattle.input.specs.Input.{input_check, on_input}
use Rattle.input.specs.declared.Refusal.{Refusal}
use Rattle.pool_rows.specs.Rows.{fit_pool}
use Rattle.pool_rows.specs.declared.Counts.{Counts}
use Rattle.format.specs.Parse.{add_fill, add_part, string_of, PartIn}
use Rattle.format.specs.Read.{read_format}
use Rattle.format.specs.declared.FormatRead.{FormatRead}
use Rattle.parse.specs.Call.{Pool, pooled, add_to, answer_of}
use Rattle.parse.specs.declared.Adding.{Adding}
use Rattle.parse.specs.declared.After.{After}
use Rattle.parse.specs.declared.Plan.{Plan}
use Rattle.parse.specs.declared.ParseError.{ParseError}
use Rattle.parse.specs.declared.ParseError.TheVariants.{Refused, BadState}
use Rattle.format_options.specs.declared.Part.{Part}

-- ---- before the pool is written to

-- the reading without a pool
abbrev pub read_of : List ℕ → List ℕ → ℕ → FormatRead
read_of format table edition = read_format (properties_at table) edition (chars format)

-- what `read` answers for a pool that is fit or not: refusals 1, 17, 2, 3 or 15, 8 in this order, and then the reading
unfoldable pub input_of : List ℕ → List ℕ → ℕ → Bool → Result FormatRead ParseError
input_of format table edition fit =
    on_input (λ (x : Refusal). Err (Refused x)) (input_check format_most format table edition)
    (pick fit (Ok (read_of format table edition)) (Err BadState))

-- ---- what is to be added

-- these strings, to a pool to which nothing has been added
abbrev pub plan_with : Option Part → Option Part → Counts → Plan
plan_with first second counts = record { first = first; second = second; none = record { counts = counts; index = None; full = false } }

-- the strings of the reading, and nothing after a refusal
abbrev pub plan_of : Result FormatRead ParseError → Counts → Plan
plan_of (Err e) counts = plan_with None None counts
plan_of (Ok r) counts = plan_with r.added.first r.added.second counts

-- a string can be added: it is a part of the format string, of whole characters, and the pool is fit
abbrev pub CanAdd : List ℕ → Pool → Option Part → Type 0
CanAdd format p (Some part) = PartIn format part × (fit_pool p.bytes p.entries p.counts ≡ true)
CanAdd format p None = Unit {0}

-- whether it is added: not after an addition without room
abbrev pub is_adding : Option Part → Adding → Bool
is_adding fill a = is_some fill && not a.full

-- the string of a fill
abbrev pub fill_string : List ℕ → Option Part → List ℕ
fill_string format (Some part) = string_of format part
fill_string format None = []

-- both strings of a plan can be added
pub record CanPlan (format : List ℕ) (plan : Plan) (bytes entries : List ℕ) : Type 0 where
  pub first : CanAdd format (pooled bytes entries plan.none) plan.first
  pub second : CanAdd format (pooled bytes entries plan.none) plan.second

-- the pool with both strings of a plan added, one after the other
abbrev pub add_plan : List ℕ → Plan → List ℕ → List ℕ → Pool
add_plan format plan bytes entries =
    let add = add_fill (add_part format add_to) in
    add (add (pooled bytes entries plan.none) plan.first) plan.second

-- ---- the answer

-- the answer, and the counts, once all is added
abbrev pub end_by : Result FormatRead ParseError → Adding → After
end_by (Err e) two = record { answer = Err e; counts = two.counts }
end_by (Ok r) two = record { answer = answer_of r.options r.outcome two.index two.full; counts = two.counts }
