-- The wrong scans of `WrongScans` do not meet the contract. The first four fail at cases that document 01 marks P, the last at any.
--     refuses_everything, one_fixed_list, writes_nothing, first_token_then_stuck, counts_records_not_written
-- Assumes nothing.
use Rattle.std.specs.Prelude.{ℕ, replicate}
use native.Mathlib.Omega.{arith}
use Rattle.std.proofs.Math.Path.{◌≡◌, refl, sym, ap}
use Rattle.std.proofs.Common.{◌∙◌}
use mathlib.Core.List.{List, [], ◌∷◌}
use Rattle.std.proofs.Math.ListN.{length, get_or}
use Rattle.fitness.specs.Small.{small_table}
use Rattle.input.specs.Input.{with_gb9c}
use Rattle.rows.specs.Row.{room, words_of_all, put_rows}
use Rattle.words.specs.Words.{bytes}
use Rattle.reading.specs.Scan.{written, number_of}
use Rattle.promises.specs.CasesLaws.{reads_computed}
use Rattle.promises.specs.ScanLaws.{count_is_written}
use Rattle.promises.specs.WrongScans.{Scan, Meets, RefusesEverything, OneFixedList, WritesNothing}
use Rattle.promises.specs.WrongScans.{FirstTokenThenStuck, CountsRecordsNotWritten}

-- a list of zeros with room for three records
abbrev zeros : List ℕ
zeros = replicate 24 0

module _ (f : Scan) (meets : Meets f) where
  -- the empty source is read to its end, even without room
  pub refuses_everything : RefusesEverything f → ⊥
  unfolding reads_computed
  refuses_everything wrong = wrong [] small_table with_gb9c [] (ap number_of (meets [] small_table with_gb9c []).answer)

  -- the first word after a scan of a source into zeros
  abbrev first_word : List ℕ → ℕ
  first_word source = get_or (f source small_table with_gb9c zeros).1 0 0

  -- "#-#" is a CommentMulti
  comment : first_word (bytes "#-#") ≡ 4
  unfolding reads_computed words_of_all put_rows
  comment = ap (λ (l : List ℕ). get_or l 0 0) (meets (bytes "#-#") small_table with_gb9c zeros).words

  -- "\r" is an Error
  lone_return : first_word (13 ∷ []) ≡ 0
  unfolding reads_computed words_of_all put_rows
  lone_return = ap (λ (l : List ℕ). get_or l 0 0) (meets (13 ∷ []) small_table with_gb9c zeros).words

  pub one_fixed_list : OneFixedList f → ⊥
  one_fixed_list wrong =
      let same : first_word (bytes "#-#") ≡ first_word (13 ∷ []) =
      ap (λ (l : List ℕ). get_or l 0 0) (wrong (bytes "#-#") (13 ∷ []) small_table with_gb9c zeros) in
      omega (arith, comment, lone_return)

  pub writes_nothing : WritesNothing f → ⊥
  writes_nothing wrong =
      let kept : first_word (bytes "#-#") ≡ 0 = ap (λ (l : List ℕ). get_or l 0 0) (wrong (bytes "#-#") small_table with_gb9c zeros) in omega (arith, comment)

  -- `r""` has three records, and is read to its end
  pub first_token_then_stuck : FirstTokenThenStuck f → ⊥
  unfolding reads_computed
  first_token_then_stuck wrong =
      let three : length (written (bytes "r\"\"") small_table with_gb9c (room zeros)) ≡ 3 = refl in
      let told = sym (meets (bytes "r\"\"") small_table with_gb9c zeros).answer ∙ wrong (bytes "r\"\"") small_table with_gb9c zeros (omega arith) in
      let z : ◌≡◌ {A = ℕ} 0 1 = cc in
      omega arith

  pub counts_records_not_written : CountsRecordsNotWritten f → ⊥
  counts_records_not_written w = w.wrong (count_is_written w.source w.table w.edition w.old _ _ (meets w.source w.table w.edition w.old))
