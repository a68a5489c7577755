-- "Small tables are enough" (document 02, C-14): two fit tables that give every code point which occurs in some bytes the same properties
-- answer alike, and leave the same words, in every call over these bytes and a table. An edition may be any number, one that is refused too.
-- Assumes nothing.
use Rattle.std.specs.Prelude.{ℕ, ◌<◌, ◌≡◌, Bool, true, List, length, get_or, Result, Ok}
use Rattle.utf8.specs.Chars.{chars}
use Rattle.property.specs.Table.{properties_at}
use Rattle.fitness.specs.Fit.{table_check}
use Rattle.input.specs.declared.Refusal.{Refusal}
use Rattle.layout.specs.declared.Layout.{Layout}
use Rattle.reading.specs.Scan.{ScansIn}
use Rattle.reading.specs.Scan.{Scanned}
use Rattle.profile.specs.Profile.{Profiles}
use Rattle.profile.specs.Profile.{Profiled}
use Rattle.foreign.specs.Check.{list_checked}
use Rattle.foreign.specs.Check.{Checked}
use Rattle.edit.specs.declared.Edit.{Edit}
use Rattle.rescan.specs.Rescan.{Rescans}
use Rattle.rescan.specs.Rescan.{Rescanned}
use Rattle.pool_rows.specs.declared.Counts.{Counts}
use Rattle.parse.specs.Call.{Parses}
use Rattle.parse.specs.declared.After.{After}
use Rattle.pad.specs.Call.{Pads}
use Rattle.pad.specs.declared.PadError.{PadError}
use Rattle.promises.specs.Cluster.{FirstClusterEnsures}

-- the tables t and u say the same of each code point of these bytes
abbrev pub SameOn : List ℕ → List ℕ → List ℕ → Type 0
SameOn bytes t u =
    (k : ℕ) → k < length (chars bytes) → properties_at t (get_or (chars bytes) k 0) ≡ properties_at u (get_or (chars bytes) k 0)

-- both are fit
abbrev pub BothFit : List ℕ → List ℕ → Type 0
BothFit t u = (table_check t ≡ Ok tt) × (table_check u ≡ Ok tt)

-- the bytes as a source, and as a format string
pub record SmallTablesPromise (bytes t u : List ℕ) (edition : ℕ) : Type 0 where
  pub same_cluster : (r q : Result ℕ Refusal) → FirstClusterEnsures bytes t edition r → FirstClusterEnsures bytes u edition q → r ≡ q
  pub same_scan :
      (layout : Layout) (old new other : List ℕ) (r q : Scanned) → ScansIn layout bytes t edition old r new → ScansIn layout bytes u edition old q other
      → (r ≡ q) × (new ≡ other)
  pub same_profile : (old new other : List ℕ) (r q : Profiled) → Profiles bytes t edition old r new → Profiles bytes u edition old q other
      → (r ≡ q) × (new ≡ other)
  -- the check of another lexer's list
  pub same_check : (list : List ℕ) (count status : ℕ) (r q : Checked) → r ≡ list_checked bytes t edition list count status
      → q ≡ list_checked bytes u edition list count status → r ≡ q
  -- a rescan, where the bytes are the new source
  pub same_rescan : (source from : List ℕ) (count : ℕ) (e : Edit) (list new other : List ℕ) (r q : Rescanned)
      → Rescans source from count e bytes t edition list r new → Rescans source from count e bytes u edition list q other
      → (r ≡ q) × (new ≡ other)
  pub same_parse :
      (pool entries newPool new_entries otherPool otherEntries : List ℕ) (counts : Counts) (r q : After)
      → Parses bytes t edition pool entries counts newPool new_entries r → Parses bytes u edition pool entries counts otherPool otherEntries q
      → (r ≡ q) × (newPool ≡ otherPool) × (new_entries ≡ otherEntries)

-- the bytes as a text that is padded: a fill that is given is asked too
abbrev pub SamePad : List ℕ → List ℕ → List ℕ → ℕ → Type 0
SamePad text t u edition =
    (alignment width : ℕ) (given : Bool) (fill : List ℕ) → (given ≡ true → SameOn fill t u) → (old new other : List ℕ) (r q : Result ℕ PadError)
    → Pads text alignment width given fill t edition old new r → Pads text alignment width given fill u edition old other q
    → (r ≡ q) × (new ≡ other)
