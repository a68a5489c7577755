-- Document 01, "One answer to each call": the wrong scans that the contract must shut out. Each is a property that a scan may have,
-- whatever else it does; `WrongScansLaws` proves that none which meets the contract has it.
-- Assumes nothing.
use Rattle.std.specs.Prelude.{ℕ, ◌<◌, ◌≡◌, List, Ok, length}
use Rattle.base.specs.Refusal.{none}
use Rattle.rows.specs.Row.{room}
use Rattle.reading.specs.Scan.{written, Scans, number_of, place_of, count_of}
use Rattle.reading.specs.Scan.{Scanned}
use Rattle.reading.specs.declared.Scan.TheVariants.{Stuck}

-- a scan: from a source, a table, an edition and a list, an answer and the list after it
abbrev pub Scan : Type 0
Scan = (source table : List ℕ) (edition : ℕ) (old : List ℕ) → Scanned × List ℕ

-- it meets the contract
abbrev pub Meets : Scan → Type 0
Meets f = (source table : List ℕ) (edition : ℕ) (old : List ℕ) → Scans source table edition old (f source table edition old).0 (f source table edition old).1

-- a scan that refuses everything
abbrev pub RefusesEverything : Scan → Type 0
RefusesEverything f = (source table : List ℕ) (edition : ℕ) (old : List ℕ) → number_of (f source table edition old).0 ≡ none → ⊥

-- or gives one fixed list: what it leaves does not depend on the source
abbrev pub OneFixedList : Scan → Type 0
OneFixedList f = (source other table : List ℕ) (edition : ℕ) (old : List ℕ) → (f source table edition old).1 ≡ (f other table edition old).1

-- or writes nothing
abbrev pub WritesNothing : Scan → Type 0
WritesNothing f = (source table : List ℕ) (edition : ℕ) (old : List ℕ) → (f source table edition old).1 ≡ old

-- one that reads the first token and then says Stuck, wherever there is more than one to read and to write
abbrev pub FirstTokenThenStuck : Scan → Type 0
FirstTokenThenStuck f =
    (source table : List ℕ) (edition : ℕ) (old : List ℕ) → 1 < length (written source table edition (room old))
    → (f source table edition old).0 ≡ Ok (Stuck 1 (place_of (f source table edition old).0))

-- a count of records not written, for some source, table, edition and list
pub record CountsRecordsNotWritten (f : Scan) : Type 0 where
  pub source : List ℕ
  pub table : List ℕ
  pub edition : ℕ
  pub old : List ℕ
  pub wrong : count_of (f source table edition old).0 ≡ length (written source table edition (room old)) → ⊥
