-- How the contract of `koto_desk_parse_flat` comes of the inner call's and of what is told of its answer.
--     no_desk, a_desk     the parse for the desk of a number: none of the two, and one of them
--     told                the call
-- Assumes nothing.
use Rattle.std.specs.Prelude.{ℕ, ◌<◌, ◌≤◌, ◌≡◌, false, List, Err}
use Rattle.std.proofs.Common.{ap, subst, ◌∙◌, lt-ltb, le-ltb}
use Rattle.pool_rows.specs.declared.Counts.{Counts}
use Rattle.parse.specs.Call.{number_of, value_of}
use Rattle.parse.specs.Numbers.{numbers_of}
use Rattle.parse.specs.Plan.{input_of}
use Rattle.desks.specs.Desks.{Shared, shared}
use Rattle.desks.specs.declared.Desks.{Desks}
use Rattle.desks.specs.declared.Which.{Which}
use Rattle.desk_parse.specs.Call.{ParsesFor}
use Rattle.desk_parse.specs.Own.{unfit_answer}
use Rattle.desk_parse.specs.declared.ParsedFor.{ParsedFor}
use Rattle.koto_desks.specs.Words.{counts_in, desks_in, which_of, count_words, desk_words, lent_by}
use Rattle.koto_desks.specs.Formats.{ParsedFrom, ParseIs}

module _ {desk : ℕ} {format table : List ℕ} {edition : ℕ} {s : Shared} where
  pub no_desk : 2 ≤ desk → {r : ParsedFor} → r.answer ≡ Err (unfit_answer (input_of format table edition false)) → r.counts ≡ s.counts
      → r.desks ≡ s.desks → ParsedFrom desk format table edition s s.bytes s.entries s.owners r
  no_desk h a c d =
      let no = le-ltb desk 2 h in
      record { answer = rw no a; counts_left = rw no c; desks_left = rw no d; bytes_left = rw no; entries_left = rw no; owners_left = rw no }

  pub a_desk : desk < 2 → {which : Which} {new_bytes new_entries newOwners : List ℕ} {r : ParsedFor} → which ≡ which_of desk
      → ParsesFor format table edition which s new_bytes new_entries newOwners r
      → ParsedFrom desk format table edition s new_bytes new_entries newOwners r
  a_desk h {new_bytes = new_bytes} {new_entries = new_entries} {newOwners = newOwners} {r = r} e p =
      let yes = lt-ltb desk 2 h in
      let q = subst (λ (w : Which). ParsesFor format table edition w s new_bytes new_entries newOwners r) e p in
      record {
        answer = rw yes q.answer_is;
        counts_left = rw yes q.counts_left;
        desks_left = rw yes q.desks_left;
        bytes_left = rw yes q.bytes_left;
        entries_left = rw yes q.entries_left;
        owners_left = rw yes q.owners_left;
      }

pub told : {desk edition value n : ℕ}
    {format table bytes entries owners new_bytes new_entries newOwners newCounts newDesks options : List ℕ} {had : Counts}
    {both : Desks} {r : ParsedFor} (counts desks : List ℕ) → had ≡ counts_in counts → both ≡ desks_in desks
    → ParsedFrom desk format table edition (shared bytes entries owners had both) new_bytes new_entries newOwners r
    → newCounts ≡ count_words r.counts → newDesks ≡ desk_words r.desks → options ≡ numbers_of r.answer → value ≡ value_of r.answer
    → n ≡ number_of r.answer
    → ParseIs desk format table edition (lent_by bytes entries owners counts desks) new_bytes new_entries newOwners newCounts newDesks options value n
told {desk} {edition} {format = format} {table = table} {bytes = bytes} {entries = entries} {owners = owners} {new_bytes = new_bytes}
    {new_entries = new_entries} {newOwners = newOwners} {r = r} counts desks e f p c d o v n =
    let q =
    subst (λ (s : Shared). ParsedFrom desk format table edition s new_bytes new_entries newOwners r) (λ k. shared bytes entries owners (e k) (f k)) p in
    record {
      number = n ∙ ap number_of q.answer;
      options_are = o ∙ ap numbers_of q.answer;
      value_is = v ∙ ap value_of q.answer;
      left =
          record {
            bytes_left = q.bytes_left;
            entries_left = q.entries_left;
            owners_left = q.owners_left;
            counts_left = c ∙ ap count_words q.counts_left;
            desks_left = d ∙ ap desk_words q.desks_left;
          };
    }
