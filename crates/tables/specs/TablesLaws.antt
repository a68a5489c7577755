-- Laws of `Tables`.
--     in_row    what `read_table` ensures, told by the count alone
-- Assumes nothing.
use Rattle.std.specs.Prelude.{ℕ, ◌≤◌, ◌≡◌, refl, List, ◌++◌, length, take, drop, Result, Ok, Err}
use Rattle.std.proofs.Common.{arith, sym, ap, ◌∙◌, length-take}
use Rattle.std.proofs.Math.Seq.{take-append_seam, drop-append_seam}
use Rattle.lines.specs.Counts.{IsPrefixLen}
use Rattle.fitness.specs.FitLaws.{fit_of}
use Rattle.table_file.specs.File.{numbers_of, row_after, read_table, read_count, ReadTableIs}
use Rattle.table_file.specs.FileLaws.{Bytes, FileRead, file_of_read}
use Rattle.table_file.specs.declared.TableFileError.{TableFileError}
use Rattle.table_file.specs.declared.TableFileError.TheVariants.{BadFile, ListFull, BadTable}
use Rattle.tables.specs.Tables.{TableIn}

-- what is read, and that it counts
abbrev Told : List ℕ → List ℕ → ℕ → Type 0
Told old new n = IsPrefixLen n new × TableIn old new n

-- a refusal writes nothing
kept : (old new : List ℕ) → new ≡ old → Told old new 0
kept old new e = ((omega arith, refl), record { fit = λ h. absurd (omega arith); rest = e })

module _ (file old new : List ℕ) (small : Bytes file) where
  -- the numbers that were read are a fit table
  filled : (n : ℕ) → read_table file (length old) ≡ Ok n → new ≡ numbers_of file ++ drop n old → Told old new n
  filled n e is =
      let f : FileRead file (length old) n = file_of_read file small (length old) n e in
      let ended : (after : List ℕ) → take n (numbers_of file ++ after) ≡ numbers_of file =
      λ after. rw f.count (take-append_seam (numbers_of file) after) in
      let begun : (after : List ℕ) → drop n (numbers_of file ++ after) ≡ after =
      λ after. rw f.count (drop-append_seam (numbers_of file) after) in
      let front : take n new ≡ numbers_of file = rw is (ended (drop n old)) in
      let counts : n ≡ length (take n new) = f.count ∙ sym (ap length front) in
      let within : n ≤ length new = omega (arith, counts, length-take n new) in
      ((within, counts), record { fit = λ _. rw front (fit_of (numbers_of file) f.fit); rest = rw is (begun (drop n old)) })

  by_answer : (a : Result ℕ TableFileError) → read_table file (length old) ≡ a → new ≡ row_after a file old → Told old new (read_count a)
  by_answer (Ok n) e is = filled n e is
  by_answer (Err (BadFile place)) e is = kept old new is
  by_answer (Err ListFull) e is = kept old new is
  by_answer (Err (BadTable place)) e is = kept old new is

  pub in_row : (a : Result ℕ TableFileError) (r : ℕ) → ReadTableIs file old new a → r ≡ read_count a → IsPrefixLen r new × TableIn old new r
  in_row a r is e =
      rw e (by_answer a (sym is.answer) (is.row ∙ ap (λ (x : Result ℕ TableFileError). row_after x file old) (sym is.answer)))
