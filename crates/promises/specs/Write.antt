-- The promise of `writer::write_format`, case by case in document 02's order: 17, 2, 18, 19, and then the format string. What `table_check` answers is
-- promised of `check_table`; `ReadsBack`, `First` and `NoSuch` are the words of document 02 (`wanted/specs/Wanted`), and `ReadByCall` says what reading
-- back has to do with the public call `parse`.
-- Assumes nothing.
use Rattle.std.specs.Prelude.{ℕ, ◌<◌, ◌≤◌, ◌≡◌, Bool, true, false, List, length, take, Option, Result, Ok, Err}
use Rattle.base.specs.Refusal.{none, bad_table, bad_edition, no_such_format, no_room}
use Rattle.property.specs.Table.{properties_at}
use Rattle.fitness.specs.Fit.{table_check}
use Rattle.fitness.specs.declared.TableError.TheVariants.{BadTable}
use Rattle.input.specs.Input.{is_edition}
use Rattle.pool.specs.Pool.{written}
use Rattle.parse.specs.Call.{Pool, call}
use Rattle.format_options.specs.declared.Options.{Options}
use Rattle.wanted.specs.Wanted.{Asked, asked_of, First, NoSuch}
use Rattle.writer.specs.Call.{asked_by, number_of, place_of, len_of}
use Rattle.writer.specs.declared.WriteError.{WriteError}
use Rattle.promises.specs.Said.{Said, says}

abbrev pub write_says : Result ℕ WriteError → Said
write_says r = says (number_of r) (place_of r)

-- the public call `parse`, with the pool p, reads s as a
pub record ReadByCall (table : List ℕ) (edition : ℕ) (p : Pool) (a : Asked) (s : List ℕ) : Type 0 where
  pub options : Options
  pub index : Option ℕ
  pub answer : (call s table edition p).answer ≡ Ok (record { options = options; index = index })
  pub same : asked_of s options ≡ a

module _ (alignment width precision representation : ℕ) (given : Bool) (fill table : List ℕ) (edition : ℕ) where
  abbrev pub asked : Asked
  asked = asked_by alignment width precision representation given fill table edition

  -- what it ensures is `Writes`. The cases shut each other out, and leave nothing out
  pub record WritePromise (old new : List ℕ) (r : Result ℕ WriteError) : Type 0 where
    pub bad_edition_lem : is_edition edition ≡ false → write_says r ≡ says bad_edition 0
    pub bad_table_lem : is_edition edition ≡ true → (i : ℕ) → table_check table ≡ Err (BadTable i) → write_says r ≡ says bad_table i
    pub no_such : is_edition edition ≡ true → table_check table ≡ Ok tt → NoSuch (properties_at table) edition asked → write_says r ≡ says no_such_format 0
    pub no_room_lem :
        is_edition edition ≡ true → table_check table ≡ Ok tt → (s : List ℕ) → First (properties_at table) edition asked s → length old < length s
        → write_says r ≡ says no_room 0
    -- every byte past the format string stays
    pub writes :
        is_edition edition ≡ true → table_check table ≡ Ok tt → (s : List ℕ) → First (properties_at table) edition asked s → length s ≤ length old
        → (write_says r ≡ says none 0) × (len_of r ≡ length s) × (new ≡ written old 0 s)
    -- 18 is given nowhere else
    pub only_none : number_of r ≡ no_such_format → NoSuch (properties_at table) edition asked
    -- what is written is the one
    pub only_first : number_of r ≡ none → First (properties_at table) edition asked (take (len_of r) new)
    -- a refusal writes nothing
    pub kept : (number_of r ≡ none → ⊥) → new ≡ old
