-- `table_file::read_table` meets its contract: each return is a case of `read_table`, and only the last has written to the row.
-- Assumes nothing.
use Rattle.std.proofs.Common.{rules}
use mathlib.Core.Path.{refl, sym, ◌∙◌}
use Rattle.base.specs.CasesLaws.{cases}
use Rattle.table_file.specs.File.{read_table}
use Rattle.table_file.proofs.FileLaws.{settled}
use Rattle.table_file.proofs.read_table.Goals as goal

pub returns-then-bad-lt6 : goal.returns-then-bad-lt6
unfolding read_table
returns-then-bad-lt6 c = settled _ _ _ _ (rw (← c.first_bad_byte-bad.ensures) (sym (search cases))) refl

pub returns-then-length-lt8 : goal.returns-then-length-lt8
unfolding read_table
returns-then-length-lt8 c = settled _ _ _ _ (rw (← c.first_bad_byte-bad.ensures) (sym (search cases))) refl

pub returns-then-length-end : goal.returns-then-length-end
unfolding read_table
returns-then-length-end c =
    settled _ _ _ _
    (rw (← c.first_bad_byte-bad.ensures, ← c.number_16-count.ensures) (sym (search cases depth 8))) refl

pub returns-then-end-length : goal.returns-then-end-length
unfolding read_table
returns-then-end-length c =
    settled _ _ _ _
    (rw (← c.first_bad_byte-bad.ensures, ← c.number_16-count.ensures) (sym (search cases depth 9))) refl

pub returns-then-row-count : goal.returns-then-row-count
unfolding read_table
returns-then-row-count c =
    settled _ _ _ _
    (rw (← c.first_bad_byte-bad.ensures, ← c.number_16-count.ensures) (sym (search cases depth 10))) refl

pub returns-in_err-check_numbers : goal.returns-in_err-check_numbers
unfolding read_table
returns-in_err-check_numbers c =
    settled _ _ _ _
    (rw (← c.first_bad_byte-bad.ensures, ← c.number_16-count.ensures, sym c.check_numbers.ensures ∙ c.in_err-check_numbers.was) (search rules)) (search rules)

pub returns : goal.returns
unfolding read_table
returns c =
    settled _ _ _ _
    (rw (← c.first_bad_byte-bad.ensures, ← c.number_16-count.ensures, sym c.check_numbers.ensures ∙ c.in_ok-check_numbers.was) (sym (search cases depth 12)))
    (rw (← c.number_16-count.ensures) c.read_numbers.ensures)
