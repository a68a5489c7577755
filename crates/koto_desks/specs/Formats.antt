-- What `koto_desk_parse_flat` returns and writes, from the inner call's answer.
-- Assumes nothing.
use Rattle.std.specs.Prelude.{ℕ, ◌≡◌, List, Err, false}
use Rattle.base.specs.Pick.{pick}
use Rattle.parse.specs.Call.{number_of, value_of}
use Rattle.parse.specs.Numbers.{numbers_of}
use Rattle.parse.specs.Plan.{input_of}
use Rattle.desks.specs.Desks.{Shared}
use Rattle.desk_parse.specs.Call.{Comes, comes, call}
use Rattle.desk_parse.specs.Own.{unfit_answer}
use Rattle.desk_parse.specs.declared.ParsedFor.{ParsedFor}
use Rattle.koto_desks.specs.Words.{is_desk, which_of, Leaves}

module _ (desk : ℕ) (format table : List ℕ) (edition : ℕ) (s : Shared) where
  -- what the call comes to: a number that is no desk is 8, where an unfit state is
  abbrev pub parsed_from : Comes
  parsed_from = pick (is_desk desk) (call format table edition (which_of desk) s) (comes (Err (unfit_answer (input_of format table edition false))) s)

  -- what the parse for the desk of a number ensures
  pub record ParsedFrom (new_bytes new_entries newOwners : List ℕ) (r : ParsedFor) : Type 0 where
    pub answer : r.answer ≡ parsed_from.answer
    pub counts_left : r.counts ≡ parsed_from.state.counts
    pub desks_left : r.desks ≡ parsed_from.state.desks
    pub bytes_left : new_bytes ≡ parsed_from.state.bytes
    pub entries_left : new_entries ≡ parsed_from.state.entries
    pub owners_left : newOwners ≡ parsed_from.state.owners

  -- what `koto_desk_parse_flat` ensures: the answer's numbers, and every word that is lent
  pub record ParseIs (new_bytes new_entries newOwners newCounts newDesks options : List ℕ) (value r : ℕ) : Type 0 where
    pub number : r ≡ number_of parsed_from.answer
    pub options_are : options ≡ numbers_of parsed_from.answer
    pub value_is : value ≡ value_of parsed_from.answer
    pub left : Leaves parsed_from.state new_bytes new_entries newOwners newCounts newDesks
