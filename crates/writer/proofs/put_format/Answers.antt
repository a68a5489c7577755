-- `writer::put_format` meets its contract: by its two tests. Assumes nothing.
use Rattle.std.proofs.Common.{arith}
use Rattle.format_parts.specs.Parts.{parts_of}
use Rattle.writer.specs.CallLaws.{put_few, put_all}
use Rattle.writer.proofs.put_format.Goals as goal

pub returns-then-buffer-needed : goal.returns-then-buffer-needed
returns-then-buffer-needed c =
    put_few c.args.fill.now (parts_of c.args.fields) c.args.buffer.now _ c.parts_len.ensures.0 (omega arith) c.if-buffer-needed.true

pub returns : goal.returns
returns c =
    put_all c.args.fill.now (parts_of c.args.fields) c.args.buffer.now _ c.parts_len.ensures.0 (omega arith) c.if-buffer-needed.false _ c.copy_in.ensures
    _ _ c.put_parts.ensures
