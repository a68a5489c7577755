-- The promise of `foreign::check_list`, case by case in document 02's order: 1, 17, 2, 3 or 15, then 8, then 5, and then yes, or the first record that
-- differs. What is right is told by what a scan writes: the records of the source's reading, their count and their status.
-- Assumes nothing.
use Rattle.std.specs.Prelude.{ℕ, ◌<◌, ◌≤◌, ◌≡◌, true, false, List, length, get_or, Ok, Err}
use Rattle.base.specs.Refusal.{too_long, bad_edition, bad_table, bad_utf8, cut_utf8, modes_full, bad_state, source_most}
use Rattle.utf8.specs.Meaning.{Arriving, Damaged}
use Rattle.fitness.specs.Fit.{table_check}
use Rattle.fitness.specs.declared.TableError.TheVariants.{BadTable}
use Rattle.input.specs.Input as input
use Rattle.rows.specs.Row.{room, put_rows}
use Rattle.held.specs.Held.{is_row}
use Rattle.rows.specs.declared.Row.{Row}
use Rattle.reading.specs.Reading as reading
use Rattle.reading.specs.Scan.{end_of}
use Rattle.reading.specs.Status.{end_number, stuck_number}
use Rattle.cursor.specs.Cursor.{start_cursor}
use Rattle.cursor.specs.declared.Cursor.{Cursor}
use Rattle.cursor.specs.declared.Status.TheVariants.{End, Stuck}
use Rattle.foreign.specs.Check.{list_checked, number_of, place_of}
use Rattle.foreign.specs.ApartLaws.{StatusIs}
use Rattle.foreign.specs.Check.{Checked}
use Rattle.foreign.specs.declared.Comparison.TheVariants.{Same, Differs}
use Rattle.promises.specs.Said.{Said, says}
use Rattle.promises.specs.Scan.{Readable, rows, stop}

-- what it ensures of its answer
abbrev pub CheckEnsures : List ℕ → List ℕ → ℕ → List ℕ → ℕ → ℕ → Checked → Type 0
CheckEnsures source table edition list count status r = r ≡ list_checked source table edition list count status

-- its number and its place
abbrev pub check_says : Checked → Said
check_says r = says (number_of r) (place_of r)

module _ (source table : List ℕ) (edition : ℕ) (list : List ℕ) (count status : ℕ) where
  -- demand 2's list, count and status
  pub record Right : Type 0 where
    pub readable : Readable source table edition
    pub has_room : count ≤ room list
    pub counted : count ≡ length (rows source table edition)
    -- it starts with the records: to write them there changes no number
    pub records : put_rows list (rows source table edition) ≡ list
    -- End, or Stuck; a reading that gets 5 has no status
    pub ends : StatusIs (stop source table edition) status

  -- the first so many records are the reading's, all eight numbers of each
  abbrev pub Agrees : ℕ → Type 0
  Agrees n = (j : ℕ) (d : Row) → j < n → is_row list j (get_or (rows source table edition) j d) ≡ true

  -- none of the refusals is given
  pub record Taken : Type 0 where
    pub readable : Readable source table edition
    pub has_room : count ≤ room list
    pub not_deep : stop source table edition ≡ reading.deep → ⊥

  -- the cases shut each other out, and leave nothing out
  pub record CheckPromise (r : Checked) : Type 0 where
    -- 1, 17, 2, 3, 15
    pub too_long_lem : source_most < length source → check_says r ≡ says too_long 0
    pub bad_edition_lem : length source ≤ source_most → input.is_edition edition ≡ false → check_says r ≡ says bad_edition 0
    pub bad_table_lem : length source ≤ source_most → input.is_edition edition ≡ true → (i : ℕ) → table_check table ≡ Err (BadTable i)
        → check_says r ≡ says bad_table i
    pub bad_utf8_lem : length source ≤ source_most → input.is_edition edition ≡ true → table_check table ≡ Ok tt → (n : ℕ) → Damaged source n
        → check_says r ≡ says bad_utf8 n
    pub cut_utf8_lem : length source ≤ source_most → input.is_edition edition ≡ true → table_check table ≡ Ok tt → (n : ℕ) → Arriving source n
        → check_says r ≡ says cut_utf8 n
    -- 8: the list is shorter than its count
    pub list_short : Readable source table edition → room list < count → check_says r ≡ says bad_state 0
    -- 5, at the byte where our own reading gets it, whatever the list says
    pub modes_full_lem : Readable source table edition → count ≤ room list → stop source table edition ≡ reading.deep
        → check_says r ≡ says modes_full (end_of 0 (rows source table edition))
    -- yes, exactly where it is right
    pub right : Right → r ≡ Ok Same
    pub only_right : r ≡ Ok Same → Right
    -- no: the first record that differs
    pub first_record : Taken → (i : ℕ) → i < count → i < length (rows source table edition) → Agrees i
        → ((d : Row) → is_row list i (get_or (rows source table edition) i d) ≡ false) → r ≡ Ok (Differs i)
    -- or the smaller count, where only length or status differ
    pub fewer : Taken → Agrees count → count < length (rows source table edition) → r ≡ Ok (Differs count)
    pub more : Taken → Agrees (length (rows source table edition)) → length (rows source table edition) < count
        → r ≡ Ok (Differs (length (rows source table edition)))
    pub other_status : Taken → Agrees count → count ≡ length (rows source table edition) → (StatusIs (stop source table edition) status → ⊥)
        → r ≡ Ok (Differs count)
    -- 3 and 15 are given nowhere else
    pub only_bad : number_of r ≡ bad_utf8 → Damaged source (place_of r)
    pub only_cut : number_of r ≡ cut_utf8 → Arriving source (place_of r)

-- the cursor to begin with, over a list that got a yes
pub record BeginsBy (count status : ℕ) (c : Cursor) : Type 0 where
  pub at_end : status ≡ end_number → c ≡ start_cursor count End
  pub at_stuck : status ≡ stuck_number → c ≡ start_cursor count Stuck
