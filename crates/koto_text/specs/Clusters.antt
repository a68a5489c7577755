-- What `koto_first_cluster` returns and writes, from the inner call's answer.
-- Assumes nothing.
use Rattle.std.specs.Prelude.{ℕ, ◌≡◌, List}
use Rattle.cluster.specs.Call.{first_cluster, number_of, place_of, len_of}

-- what `koto_first_cluster` ensures
pub record FirstClusterIs (source table : List ℕ) (edition len place r : ℕ) : Type 0 where
  pub number : r ≡ number_of (first_cluster source table edition)
  pub len_is : len ≡ len_of (first_cluster source table edition)
  pub place_is : place ≡ place_of (first_cluster source table edition)
