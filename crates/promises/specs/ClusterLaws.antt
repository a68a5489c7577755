-- The promise of `Cluster`, proved, and that no second answer fits.
--     first_cluster_promise, first_cluster_has_one_answer
-- Assumes nothing.
use Rattle.std.specs.Prelude.{ℕ, ◌≤◌, ◌≡◌, refl, true, List, [], ◌∷◌, length, take, Result, Ok, Err}
use Rattle.std.proofs.Common.{arith, sym, ap, subst, ◌∙◌}
use Rattle.base.specs.Refusal.{none, bad_utf8, cut_utf8, source_most}
use Rattle.utf8.specs.Encode.{encode_all, WellFormed}
use Rattle.utf8.specs.Chars.{chars}
use Rattle.utf8.specs.Meaning.{Arriving, Damaged}
use Rattle.property.specs.Table.{properties_at}
use Rattle.fitness.specs.Fit.{table_check}
use Rattle.cluster.specs.First.{Shortest, first_size, first_end}
use Rattle.cluster.specs.FirstLaws.{first_is_shortest, one_shortest}
use Rattle.cluster.specs.Call.{first_cluster, number_of, place_of, len_of}
use Rattle.input.specs.Input.{is_edition}
use Rattle.input.specs.InputLaws.{is_long, is_none, is_table, is_bad, is_cut, only_bad, only_cut}
use Rattle.cluster.specs.CallLaws.{refused, unrefused, no_bytes}
use Rattle.input.specs.declared.Refusal.{Refusal}
use Rattle.promises.specs.Said.{says}
use Rattle.promises.specs.Cluster.{FirstClusterEnsures, cluster_says, FirstClusterPromise}

module _ (source table : List ℕ) (edition : ℕ) where
  -- the one shortest beginning is the one that is computed
  sized : (cs : List ℕ) (n : ℕ) → Shortest (properties_at table) edition cs n → first_size (properties_at table) edition cs ≡ n
  sized [] n w = absurd (omega (arith, w.some, w.within))
  sized (c ∷ cs) n w =
      one_shortest (properties_at table) edition (c ∷ cs) _ n (first_is_shortest (properties_at table) edition c cs) w

  first : length source ≤ source_most → is_edition edition ≡ true → table_check table ≡ Ok tt → WellFormed source → (n : ℕ)
      → Shortest (properties_at table) edition (chars source) n
      → first_cluster source table edition ≡ Ok (length (encode_all (take n (chars source))))
  first h k e w n s =
      let q : first_end (properties_at table) edition 0 (chars source) ≡ length (encode_all (take n (chars source))) =
      omega (arith, ap (λ (k : ℕ). length (encode_all (take k (chars source)))) (sized (chars source) n s))
      in
      unrefused source table edition (record { short = h; known = k; fit = e; well = w }) ∙ ap Ok q

  bad_only : number_of (first_cluster source table edition) ≡ bad_utf8 → Damaged source (place_of (first_cluster source table edition))
  unfolding first_cluster
  bad_only = only_bad source_most source table edition Err number_of place_of (Ok _) (λ x. refl) (λ x. refl) (λ m. omega arith)

  cut_only : number_of (first_cluster source table edition) ≡ cut_utf8 → Arriving source (place_of (first_cluster source table edition))
  unfolding first_cluster
  cut_only = only_cut source_most source table edition Err number_of place_of (Ok _) (λ x. refl) (λ x. refl) (λ m. omega arith)

  pub first_cluster_promise : (r : Result ℕ Refusal) → FirstClusterEnsures source table edition r → FirstClusterPromise source table edition r
  first_cluster_promise r e =
      let has-length : (n : ℕ) → r ≡ Ok n → (cluster_says r ≡ says none 0) × (len_of r ≡ n) =
      λ n q. (ap cluster_says q, ap len_of q)
      in
      record {
        too_long_lem = λ h. ap cluster_says (e ∙ refused source table edition (is_long source_most source table edition h));
        bad_edition_lem = λ h k. ap cluster_says (e ∙ refused source table edition (is_none source_most source table edition h k));
        bad_table_lem = λ h k i f. ap cluster_says (e ∙ refused source table edition (is_table source_most source table edition h k i f));
        bad_utf8_lem = λ h k f n w. ap cluster_says (e ∙ refused source table edition (is_bad source_most source table edition h k f n w));
        cut_utf8_lem = λ h k f n w. ap cluster_says (e ∙ refused source table edition (is_cut source_most source table edition h k f n w));
        no_bytes = λ z k f. has-length 0 (e ∙ ap (λ (s : List ℕ). first_cluster s table edition) z ∙ no_bytes table edition k f);
        cluster = λ h k f w n s. has-length _ (e ∙ first h k f w n s);
        only_bad = λ m. subst (λ (x : Result ℕ Refusal). Damaged source (place_of x)) (sym e) (bad_only (ap number_of (sym e) ∙ m));
        only_cut = λ m. subst (λ (x : Result ℕ Refusal). Arriving source (place_of x)) (sym e) (cut_only (ap number_of (sym e) ∙ m));
      }

  pub first_cluster_has_one_answer : (r q : Result ℕ Refusal) → FirstClusterEnsures source table edition r → FirstClusterEnsures source table edition q → r ≡ q
  first_cluster_has_one_answer r q e f = e ∙ sym f
