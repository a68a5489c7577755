-- The promise of `parse::parse`, case by case in the documents' order: 1, 17, 2, 3 or 15, 8, which leave the pool as it is, and then what
-- string_format_options.rs's one pass over the format string comes to, with 13 where an addition found no room.
-- Assumes nothing.
use Rattle.std.specs.Prelude.{ℕ, ◌<◌, ◌≤◌, ◌≡◌, true, false, List, length, Ok, Err}
use Rattle.base.specs.Refusal.{too_long, bad_edition, bad_table, bad_utf8, cut_utf8, bad_state, expected_number, format_number_is_too_large, unexpected_token, pool_full, format_most}
use Rattle.utf8.specs.Encode.{WellFormed}
use Rattle.utf8.specs.Meaning.{Arriving, Damaged}
use Rattle.fitness.specs.Fit.{table_check}
use Rattle.input.specs.Input.{is_edition}
use Rattle.fitness.specs.declared.TableError.TheVariants.{BadTable}
use Rattle.pool_rows.specs.Rows.{fit_pool}
use Rattle.pool_rows.specs.declared.Counts.{Counts}
use Rattle.format_options.specs.declared.FormatError.TheVariants.{ExpectedNumber, TooLarge, UnexpectedToken}
use Rattle.parse.specs.Call.{lent, parsed, number_of, value_of}
use Rattle.parse.specs.declared.After.{After}
use Rattle.promises.specs.Said.{Said, says}

abbrev pub parse_says : After → Said
parse_says r = says (number_of r.answer) (value_of r.answer)

-- refusals 1, 17, 2, 3, 15 and 8 are not given
pub record Parsable (format table : List ℕ) (edition : ℕ) (bytes entries : List ℕ) (counts : Counts) : Type 0 where
  pub short : length format ≤ format_most
  pub known : is_edition edition ≡ true
  pub fit : table_check table ≡ Ok tt
  pub well : WellFormed format
  pub pool : fit_pool bytes entries counts ≡ true

-- what it ensures is `Parses`. The cases shut each other out, and leave nothing out
pub record ParsePromise (format table : List ℕ) (edition : ℕ) (bytes entries : List ℕ) (counts : Counts) (new_bytes new_entries : List ℕ) (r : After) : Type 0 where
  pub too_long_lem : format_most < length format → parse_says r ≡ says too_long 0
  pub bad_edition_lem : length format ≤ format_most → is_edition edition ≡ false → parse_says r ≡ says bad_edition 0
  pub bad_table_lem : length format ≤ format_most → is_edition edition ≡ true → (i : ℕ) → table_check table ≡ Err (BadTable i) → parse_says r ≡ says bad_table i
  pub bad_utf8_lem : length format ≤ format_most → is_edition edition ≡ true → table_check table ≡ Ok tt → (n : ℕ) → Damaged format n → parse_says r ≡ says bad_utf8 n
  pub cut_utf8_lem : length format ≤ format_most → is_edition edition ≡ true → table_check table ≡ Ok tt → (n : ℕ) → Arriving format n → parse_says r ≡ says cut_utf8 n
  pub bad_state_lem :
      length format ≤ format_most → is_edition edition ≡ true → table_check table ≡ Ok tt → WellFormed format → fit_pool bytes entries counts ≡ false
      → parse_says r ≡ says bad_state 0
  -- 3 and 15 are given nowhere else
  pub only_bad : number_of r.answer ≡ bad_utf8 → Damaged format (value_of r.answer)
  pub only_cut : number_of r.answer ≡ cut_utf8 → Arriving format (value_of r.answer)
  -- these leave the counts and both rows
  pub kept :
      (Parsable format table edition bytes entries counts → ⊥) → (r.counts ≡ counts) × (new_bytes ≡ bytes) × (new_entries ≡ entries)
  -- 13: an addition found no room, whatever would have been found after it
  pub full :
      Parsable format table edition bytes entries counts → (parsed format table edition (lent bytes entries counts)).pool.full ≡ true
      → parse_says r ≡ says pool_full 0
  -- the Rust's answer: the options with the fill's index, or 10, 11, 12
  pub fine :
      Parsable format table edition bytes entries counts → (parsed format table edition (lent bytes entries counts)).pool.full ≡ false
      → (parsed format table edition (lent bytes entries counts)).outcome ≡ Ok tt
      → r.answer
      ≡ Ok (record {
        options = (parsed format table edition (lent bytes entries counts)).options;
        index = (parsed format table edition (lent bytes entries counts)).pool.index;
      })
  pub no_number_lem :
      Parsable format table edition bytes entries counts → (parsed format table edition (lent bytes entries counts)).pool.full ≡ false → (c : ℕ)
      → (parsed format table edition (lent bytes entries counts)).outcome ≡ Err (ExpectedNumber c) → parse_says r ≡ says expected_number c
  pub too_large :
      Parsable format table edition bytes entries counts → (parsed format table edition (lent bytes entries counts)).pool.full ≡ false → (n : ℕ)
      → (parsed format table edition (lent bytes entries counts)).outcome ≡ Err (TooLarge n) → parse_says r ≡ says format_number_is_too_large n
  pub unexpected :
      Parsable format table edition bytes entries counts → (parsed format table edition (lent bytes entries counts)).pool.full ≡ false → (c : ℕ)
      → (parsed format table edition (lent bytes entries counts)).outcome ≡ Err (UnexpectedToken c) → parse_says r ≡ says unexpected_token c
  -- what was added stays, also after 10 to 13: every word of the pool
  pub left :
      Parsable format table edition bytes entries counts
      → (r.counts ≡ (parsed format table edition (lent bytes entries counts)).pool.counts)
      × (new_bytes ≡ (parsed format table edition (lent bytes entries counts)).pool.bytes)
      × (new_entries ≡ (parsed format table edition (lent bytes entries counts)).pool.entries)
