-- `table_file::check_numbers` meets its contract: the start of the filled row is the file's numbers. Assumes nothing.
use mathlib.Core.Path.{sym, ap, ◌∙◌}
use lib.ListN.{length}
use Rattle.fitness.specs.Fit.{table_check}
use Rattle.table_file.specs.FileLaws.{length_numbers}
use Rattle.table_file.proofs.FileLaws.{filled_start, too_many}
use Rattle.table_file.proofs.check_numbers.Goals as goal

pub returns-then-count-gt-MOST : goal.returns-then-count-gt-MOST
returns-then-count-gt-MOST c = too_many _ _ c.if-count-gt-MOST.true

pub slice_bounds-check_table-end : goal.slice_bounds-check_table-end
slice_bounds-check_table-end c = sym (ap length (filled_start _ _ _ _ c.read_numbers.ensures) ∙ length_numbers _ _)

pub returns : goal.returns
returns c = c.check_table.ensures ∙ ap table_check (filled_start _ _ _ _ c.read_numbers.ensures)
