-- `text::char_len` meets its contract: it is the length of what `decode` reads. Assumes nothing.
use Rattle.utf8.specs.CharsLaws.{at_char, rest_at}
use Rattle.text.proofs.char_len.Goals as goal

pub returns : goal.returns
returns c =
    record {
      code = c.decode-c.result.code;
      at = at_char c.args.source.now c.args.at _ _ c.decode-c.ensures;
      well = rest_at c.args.source.now c.args.at _ _ c.requires.0 c.decode-c.ensures;
    }
