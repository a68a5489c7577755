-- What `koto_desk_add_string_flat` returns and writes, from the inner call's answer.
-- Assumes nothing.
use Rattle.std.specs.Prelude.{ℕ, ◌≡◌, List, Result, Err}
use Rattle.base.specs.Pick.{pick}
use Rattle.pool.specs.Pool.{refusal_at, number_of, place_of, added_index}
use Rattle.pool.specs.declared.Added.{Added}
use Rattle.pool.specs.declared.AddError.{AddError}
use Rattle.desks.specs.Desks.{Shared}
use Rattle.desk_add.specs.Add.{added_for, add_for}
use Rattle.desk_add.specs.declared.AddedFor.{AddedFor}
use Rattle.koto_desks.specs.Words.{is_desk, which_of, Leaves}

module _ (desk : ℕ) (string : List ℕ) (s : Shared) where
  -- the answer: a number that is no desk is 8, where an unfit state is
  abbrev pub added_from : Result Added AddError
  added_from = pick (is_desk desk) (added_for (which_of desk) s string) (Err (refusal_at string))

  -- the shared pool after it
  abbrev pub add_from : Shared
  add_from = pick (is_desk desk) (add_for (which_of desk) s string) s

  -- what the addition for the desk of a number ensures
  pub record AddedFrom (new_bytes new_entries newOwners : List ℕ) (r : AddedFor) : Type 0 where
    pub answer : r.added ≡ added_from
    pub counts_left : r.counts ≡ add_from.counts
    pub desks_left : r.desks ≡ add_from.desks
    pub bytes_left : new_bytes ≡ add_from.bytes
    pub entries_left : new_entries ≡ add_from.entries
    pub owners_left : newOwners ≡ add_from.owners

  -- what `koto_desk_add_string_flat` ensures: the answer's numbers, and every word that is lent
  pub record AddStringIs (new_bytes new_entries newOwners newCounts newDesks : List ℕ) (index place r : ℕ) : Type 0 where
    pub number : r ≡ number_of added_from
    pub index_is : index ≡ added_index added_from
    pub place_is : place ≡ place_of added_from
    pub left : Leaves add_from new_bytes new_entries newOwners newCounts newDesks
