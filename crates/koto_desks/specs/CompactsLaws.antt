-- How the contract of `koto_compact_flat` comes of the inner call's and of what is told of its answer.
--     compact_told_lem
-- Assumes nothing.
use Rattle.std.specs.Prelude.{ℕ, ◌≡◌, List, Result}
use Rattle.std.proofs.Common.{ap, subst, ◌∙◌}
use Rattle.pool_rows.specs.declared.Counts.{Counts}
use Rattle.compact.specs.Compact.{number_of, counts_after, desks_after, Compacts}
use Rattle.compact.specs.CallLaws.{state_counts, state_desks}
use Rattle.compact.specs.declared.Kept.{Kept}
use Rattle.compact.specs.declared.CompactError.{CompactError}
use Rattle.desks.specs.Desks.{Shared, shared}
use Rattle.desks.specs.declared.Desks.{Desks}
use Rattle.koto_desks.specs.Words.{counts_in, desks_in, count_words, desk_words, lent_by}
use Rattle.koto_desks.specs.Compacts.{CompactIs}

pub compact_told_lem : {n : ℕ} {first second moved bytes entries owners new_bytes new_entries newOwners newCounts newDesks newMoved : List ℕ}
    {had after : Counts} {both then : Desks} {r : Result Kept CompactError} (counts desks : List ℕ) → had ≡ counts_in counts → both ≡ desks_in desks
    → Compacts first second (shared bytes entries owners had both) moved new_bytes new_entries newOwners newMoved r
    → after ≡ counts_after r had → newCounts ≡ count_words after → then ≡ desks_after r both → newDesks ≡ desk_words then → n ≡ number_of r
    → CompactIs first second (lent_by bytes entries owners counts desks) moved new_bytes new_entries newOwners newCounts newDesks newMoved n
compact_told_lem {n} {first} {second} {moved} {bytes} {entries} {owners} {new_bytes} {new_entries} {newOwners} {newCounts} {newDesks} {newMoved} {had}
    {both = both} {r = r} counts desks e f p c cw d dw k =
    let s = shared bytes entries owners had both in
    subst (λ (t : Shared). CompactIs first second t moved new_bytes new_entries newOwners newCounts newDesks newMoved n)
    (λ i. shared bytes entries owners (e i) (f i))
    (record {
      number = k ∙ ap number_of p.answer_is;
      moved_left = p.moved_left;
      left =
          record {
            bytes_left = p.bytes_left;
            entries_left = p.entries_left;
            owners_left = p.owners_left;
            counts_left = cw ∙ ap count_words (c ∙ ap (λ (a : Result Kept CompactError). counts_after a had) p.answer_is ∙ state_counts first second s moved);
            desks_left = dw ∙ ap desk_words (d ∙ ap (λ (a : Result Kept CompactError). desks_after a both) p.answer_is ∙ state_desks first second s moved);
          };
    })
