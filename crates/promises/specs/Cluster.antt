-- The promise of `cluster::first_cluster`, case by case in the documents' order: 1 as a source, 17, 2, 3 or 15, and then the first cluster.
-- Assumes nothing.
use Rattle.std.specs.Prelude.{ℕ, ◌<◌, ◌≤◌, ◌≡◌, true, false, List, [], length, take, Result, Ok, Err}
use Rattle.base.specs.Refusal.{none, too_long, bad_edition, bad_table, bad_utf8, cut_utf8, source_most}
use Rattle.utf8.specs.Encode.{encode_all, WellFormed}
use Rattle.utf8.specs.Chars.{chars}
use Rattle.utf8.specs.Meaning.{Arriving, Damaged}
use Rattle.property.specs.Table.{properties_at}
use Rattle.fitness.specs.Fit.{table_check}
use Rattle.fitness.specs.declared.TableError.TheVariants.{BadTable}
use Rattle.cluster.specs.First.{Shortest}
use Rattle.cluster.specs.Call.{first_cluster, number_of, place_of, len_of}
use Rattle.input.specs.Input.{is_edition}
use Rattle.input.specs.declared.Refusal.{Refusal}
use Rattle.promises.specs.Said.{Said, says}

-- what it ensures of its answer
abbrev pub FirstClusterEnsures : List ℕ → List ℕ → ℕ → Result ℕ Refusal → Type 0
FirstClusterEnsures source table edition r = r ≡ first_cluster source table edition

abbrev pub cluster_says : Result ℕ Refusal → Said
cluster_says r = says (number_of r) (place_of r)

-- the cases shut each other out, and leave nothing out. A cluster's length is that of its characters in UTF-8
pub record FirstClusterPromise (source table : List ℕ) (edition : ℕ) (r : Result ℕ Refusal) : Type 0 where
  pub too_long_lem : source_most < length source → cluster_says r ≡ says too_long 0
  pub bad_edition_lem : length source ≤ source_most → is_edition edition ≡ false → cluster_says r ≡ says bad_edition 0
  pub bad_table_lem : length source ≤ source_most → is_edition edition ≡ true → (i : ℕ) → table_check table ≡ Err (BadTable i) → cluster_says r ≡ says bad_table i
  pub bad_utf8_lem : length source ≤ source_most → is_edition edition ≡ true → table_check table ≡ Ok tt → (n : ℕ) → Damaged source n → cluster_says r ≡ says bad_utf8 n
  pub cut_utf8_lem : length source ≤ source_most → is_edition edition ≡ true → table_check table ≡ Ok tt → (n : ℕ) → Arriving source n → cluster_says r ≡ says cut_utf8 n
  pub no_bytes : source ≡ [] → is_edition edition ≡ true → table_check table ≡ Ok tt → (cluster_says r ≡ says none 0) × (len_of r ≡ 0)
  pub cluster :
      length source ≤ source_most → is_edition edition ≡ true → table_check table ≡ Ok tt → WellFormed source → (n : ℕ)
      → Shortest (properties_at table) edition (chars source) n
      → (cluster_says r ≡ says none 0) × (len_of r ≡ length (encode_all (take n (chars source))))
  -- 3 and 15 are given nowhere else
  pub only_bad : number_of r ≡ bad_utf8 → Damaged source (place_of r)
  pub only_cut : number_of r ≡ cut_utf8 → Arriving source (place_of r)
