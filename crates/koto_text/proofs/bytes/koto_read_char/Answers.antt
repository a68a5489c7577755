-- `bytes::koto_read_char` meets its contract: each number is that of what was read. Assumes nothing.
use mathlib.Core.Path.{ap, ◌∙◌}
use Rattle.utf8.specs.Lengths.{len_of}
use Rattle.utf8.specs.Answer.{read_number, code_of}
use Rattle.koto_text.proofs.bytes.koto_read_char.Goals as goal

pub returns : goal.returns
returns c =
    let e = c.read_char-read.ensures in
    record {
      number = c.read_number.ensures ∙ ap read_number e;
      code_is = c.read_code.ensures ∙ ap code_of e;
      len_is = c.read_len.ensures ∙ ap len_of e;
    }
