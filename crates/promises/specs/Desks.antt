-- Document 02, C-12, "Two desks, one pool": what `desk_add::add_string` and `desk_parse::parse` promise, in the documents' numbers.
-- Assumes nothing.
use Rattle.std.specs.Prelude.{ℕ, ◌+◌, ◌<◌, ◌≤◌, ◌≡◌, List, [], ◌∷◌, true, false, length, set, Err, Ok}
use Rattle.base.specs.Refusal.{none, bad_utf8, cut_utf8, bad_state, pool_full, format_most}
use Rattle.utf8.specs.Encode.{WellFormed}
use Rattle.utf8.specs.Meaning.{Arriving, Damaged}
use Rattle.input.specs.Input.{input_check}
use Rattle.input.specs.declared.Refusal.{Refusal}
use Rattle.pool_rows.specs.Rows.{string_at}
use Rattle.pool.specs.Pool.{one_more, written, entered, number_of, added_index}
use Rattle.pool.specs.declared.AddError.TheVariants as added
use Rattle.parse.specs.declared.ParseError.TheVariants as said
use Rattle.desks.specs.Desks.{Shared, desk_of, other, owner_of, fit_desks, Fits}
use Rattle.desks.specs.declared.Which.{Which}
use Rattle.desk_add.specs.Add.{free_entries, free_bytes, with_more, added_for, add_for}
use Rattle.desk_add.specs.declared.AddedFor.{AddedFor}
use Rattle.desk_parse.specs.Call.{parsed, ended, call}
use Rattle.desk_parse.specs.declared.ParsedFor.{ParsedFor}
use Rattle.promises.specs.Said.{says}
use Rattle.promises.specs.Pool.{added_says, StandsAt, Absent}

-- ---- an addition for a desk

-- a string that passes the first two refusals
pub record TakenFor (string : List ℕ) (s : Shared) : Type 0 where
  pub well : WellFormed string
  pub fit : fit_desks s ≡ true

abbrev pub StandsIn : List ℕ → Shared → ℕ → Type 0
StandsIn string s k = StandsAt string s.bytes s.entries s.counts k

abbrev pub AbsentIn : List ℕ → Shared → Type 0
AbsentIn string s = Absent string s.bytes s.entries s.counts

-- the counts, the desks and every word of the rows are as they were
pub record Stays (s t : Shared) : Type 0 where
  pub bytes : t.bytes ≡ s.bytes
  pub entries : t.entries ≡ s.entries
  pub owners : t.owners ≡ s.owners
  pub counts : t.counts ≡ s.counts
  pub desks : t.desks ≡ s.desks

-- t is the shared pool after the call. The cases shut each other out, and leave nothing out
pub record DeskAddPromise (string : List ℕ) (which : Which) (s t : Shared) (r : AddedFor) : Type 0 where
  pub bad_utf8_lem : (n : ℕ) → Damaged string n → added_says r.added ≡ says bad_utf8 n
  pub cut_utf8_lem : (n : ℕ) → Arriving string n → added_says r.added ≡ says cut_utf8 n
  pub bad_state_lem : WellFormed string → fit_desks s ≡ false → added_says r.added ≡ says bad_state 0
  -- 13: in entries or in bytes the addition would pass what is left of the common room and of the desk's guarantee
  pub no_entry : TakenFor string s → AbsentIn string s → free_entries which s < 1 → added_says r.added ≡ says pool_full 0
  pub few_bytes : TakenFor string s → AbsentIn string s → 1 ≤ free_entries which s → free_bytes which s < length string
      → added_says r.added ≡ says pool_full 0
  -- a string that is there costs nobody
  pub there : TakenFor string s → (k : ℕ) → StandsIn string s k → ((j : ℕ) → j < k → StandsIn string s j → ⊥)
      → (added_says r.added ≡ says none 0) × (added_index r.added ≡ k) × Stays s t
  -- a new one is charged to the desk that adds it
  pub new : TakenFor string s → AbsentIn string s → 1 ≤ free_entries which s → length string ≤ free_bytes which s
      → (added_says r.added ≡ says none 0)
      × (added_index r.added ≡ s.counts.entries)
      × (t.counts ≡ one_more s.counts (length string))
      × (t.bytes ≡ written s.bytes s.counts.bytes string)
      × (t.entries ≡ entered s.entries s.counts.entries s.counts.bytes (length string))
      × (t.owners ≡ set s.owners s.counts.entries (owner_of which))
      × (t.desks ≡ with_more which s.desks (length string))
  -- a refusal changes nothing
  pub kept : (number_of r.added ≡ none → ⊥) → Stays s t
  -- a fit state stays fit, nothing of the other desk changes, and no index changes what it means
  pub fits : Fits s → Fits t
  pub others : desk_of (other which) t.desks ≡ desk_of (other which) s.desks
  pub means_same : Fits s → (k : ℕ) → k < s.counts.entries → string_at t.bytes t.entries k ≡ string_at s.bytes s.entries k

-- ---- a parse for a desk

pub record DeskParsePromise (format table : List ℕ) (edition : ℕ) (which : Which) (s t : Shared) (r : ParsedFor) : Type 0 where
  -- refusals 1, 17, 2, 3 or 15, and then 8
  pub refused : (x : Refusal) → input_check format_most format table edition ≡ Err x → (r.answer ≡ Err (said.Refused x)) × Stays s t
  pub bad_state_lem : input_check format_most format table edition ≡ Ok tt → fit_desks s ≡ false → (r.answer ≡ Err said.BadState) × Stays s t
  -- else the one pass of the parse, in which each addition is one for the desk, one after the other
  pub reads : input_check format_most format table edition ≡ Ok tt → Fits s
      → (r.answer ≡ (ended (parsed format table edition which s)).answer) × Stays (ended (parsed format table edition which s)).state t
  pub fits : Fits s → Fits t
  pub others : Fits s → desk_of (other which) t.desks ≡ desk_of (other which) s.desks
  pub means_same : Fits s → (k : ℕ) → k < s.counts.entries → string_at t.bytes t.entries k ≡ string_at s.bytes s.entries k

-- ---- the guarantee

-- what a desk may do: add a string, or parse a format string with a table and an edition
pub data Act : Type 0 where
  Adds : List ℕ → Act
  Parses : List ℕ → List ℕ → ℕ → Act

-- the shared pool after it, refused or not
abbrev pub acted : Which → Shared → Act → Shared
acted which s (Adds string) = add_for which s string
acted which s (Parses format table edition) = (call format table edition which s).state

unfoldable pub act_all : Which → Shared → List Act → Shared
act_all which s [] = s
act_all which s (act ∷ acts) = act_all which (acted which s act) acts

-- whatever the other desk does, a desk that stays within its guarantee is not refused with 13
abbrev pub Guarantee : Type 0
Guarantee =
    (which : Which) (s : Shared) → Fits s → (acts : List Act) (string : List ℕ)
    → (desk_of which s.desks).charged.entries + 1 ≤ (desk_of which s.desks).guaranteed.entries
    → (desk_of which s.desks).charged.bytes + length string ≤ (desk_of which s.desks).guaranteed.bytes
    → added_for which (act_all (other which) s acts) string ≡ Err added.PoolFull → ⊥
