-- How the contract of `koto_desk_add_string_flat` comes of the inner call's and of what is told of its answer.
--     no_desk, a_desk     the addition for the desk of a number: none of the two, and one of them
--     told                the call
-- Assumes nothing.
use Rattle.std.specs.Prelude.{ℕ, ◌<◌, ◌≤◌, ◌≡◌, List, Err}
use Rattle.std.proofs.Common.{ap, subst, ◌∙◌, lt-ltb, le-ltb}
use Rattle.pool_rows.specs.declared.Counts.{Counts}
use Rattle.pool.specs.Pool.{refusal_at, number_of, place_of, added_index}
use Rattle.desks.specs.Desks.{Shared, shared}
use Rattle.desks.specs.declared.Desks.{Desks}
use Rattle.desks.specs.declared.Which.{Which}
use Rattle.desk_add.specs.Add.{AddsFor}
use Rattle.desk_add.specs.declared.AddedFor.{AddedFor}
use Rattle.koto_desks.specs.Words.{counts_in, desks_in, which_of, count_words, desk_words, lent_by}
use Rattle.koto_desks.specs.Strings.{AddedFrom, AddStringIs}

module _ {desk : ℕ} {string : List ℕ} {s : Shared} where
  pub no_desk : 2 ≤ desk → {r : AddedFor} → r.added ≡ Err (refusal_at string) → r.counts ≡ s.counts → r.desks ≡ s.desks
      → AddedFrom desk string s s.bytes s.entries s.owners r
  no_desk h a c d =
      let no = le-ltb desk 2 h in
      record { answer = rw no a; counts_left = rw no c; desks_left = rw no d; bytes_left = rw no; entries_left = rw no; owners_left = rw no }

  pub a_desk : desk < 2 → {which : Which} {new_bytes new_entries newOwners : List ℕ} {r : AddedFor} → which ≡ which_of desk
      → AddsFor string which s new_bytes new_entries newOwners r → AddedFrom desk string s new_bytes new_entries newOwners r
  a_desk h {new_bytes = new_bytes} {new_entries = new_entries} {newOwners = newOwners} {r = r} e p =
      let yes = lt-ltb desk 2 h in
      let q = subst (λ (w : Which). AddsFor string w s new_bytes new_entries newOwners r) e p in
      record {
        answer = rw yes q.answer;
        counts_left = rw yes q.counts_left;
        desks_left = rw yes q.desks_left;
        bytes_left = rw yes q.bytes_left;
        entries_left = rw yes q.entries_left;
        owners_left = rw yes q.owners_left;
      }

pub told : {desk index place n : ℕ} {string bytes entries owners new_bytes new_entries newOwners newCounts newDesks : List ℕ}
    {had : Counts} {both : Desks} {r : AddedFor} (counts desks : List ℕ) → had ≡ counts_in counts → both ≡ desks_in desks
    → AddedFrom desk string (shared bytes entries owners had both) new_bytes new_entries newOwners r
    → newCounts ≡ count_words r.counts → newDesks ≡ desk_words r.desks → index ≡ added_index r.added → place ≡ place_of r.added
    → n ≡ number_of r.added
    → AddStringIs desk string (lent_by bytes entries owners counts desks) new_bytes new_entries newOwners newCounts newDesks index place n
told {desk} {string = string} {bytes = bytes} {entries = entries} {owners = owners} {new_bytes = new_bytes} {new_entries = new_entries}
    {newOwners = newOwners} {r = r} counts desks e f p c d i l n =
    let q = subst (λ (s : Shared). AddedFrom desk string s new_bytes new_entries newOwners r) (λ k. shared bytes entries owners (e k) (f k)) p in
    record {
      number = n ∙ ap number_of q.answer;
      index_is = i ∙ ap added_index q.answer;
      place_is = l ∙ ap place_of q.answer;
      left =
          record {
            bytes_left = q.bytes_left;
            entries_left = q.entries_left;
            owners_left = q.owners_left;
            counts_left = c ∙ ap count_words q.counts_left;
            desks_left = d ∙ ap desk_words q.desks_left;
          };
    }
