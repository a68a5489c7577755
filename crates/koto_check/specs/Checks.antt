-- What `koto_check_list` returns and writes, from the inner call's answer.
-- Assumes nothing.
use Rattle.std.specs.Prelude.{ℕ, ◌≡◌, List}
use Rattle.foreign.specs.Check.{Checked, list_checked, number_of, place_of, same_of, differs_of}

module _ (source table : List ℕ) (edition : ℕ) (list : List ℕ) (count status : ℕ) where
  -- the inner call's answer
  abbrev pub checked : Checked
  checked = list_checked source table edition list count status

  -- what `koto_check_list` ensures
  pub record CheckListIs (same differs place r : ℕ) : Type 0 where
    pub number : r ≡ number_of checked
    pub same_is : same ≡ same_of checked
    pub differs_is : differs ≡ differs_of checked
    pub place_is : place ≡ place_of checked
