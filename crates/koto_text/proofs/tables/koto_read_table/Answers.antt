-- `tables::koto_read_table` meets its contract: each number is that of the answer, and the row is as it left it. Assumes nothing.
use mathlib.Core.Path.{ap, ◌∙◌}
use Rattle.table_file.specs.File.{number_of, read_count, place_of}
use Rattle.koto_text.proofs.tables.koto_read_table.Goals as goal

pub returns : goal.returns
returns c =
    let read = c.read_table-read.ensures in
    record {
      number = c.number_of.ensures ∙ ap number_of read.answer;
      count_is = c.count_of.ensures ∙ ap read_count read.answer;
      place_is = c.place_of.ensures ∙ ap place_of read.answer;
      row = read.row;
    }
