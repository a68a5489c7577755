-- `koto_writer::koto_write_format` meets its contract: each number is that of the answer. Assumes nothing.
use mathlib.Core.Path.{ap, ◌∙◌}
use Rattle.writer.specs.Call.{number_of, place_of, len_of}
use Rattle.writer.specs.CallLaws.{given_if}
use Rattle.koto_writer.specs.Writes.{is_given}
use Rattle.koto_writer.proofs.koto_write_format.Goals as goal

pub returns : goal.returns
returns c =
    let a = c.args in
    let p =
    given_if a.alignment a.width a.precision a.representation a.fill a.table.now a.edition a.buffer.now _ _ (is_given a.filled)
    (rw c.then_some.ensures at c.write_format-written.ensures) in
    record {
      number = c.number_of.ensures ∙ ap number_of p.answer;
      len_is = c.len_of.ensures ∙ ap len_of p.answer;
      place_is = c.place_of.ensures ∙ ap place_of p.answer;
      contents = p.contents;
    }
