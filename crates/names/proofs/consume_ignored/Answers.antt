-- `names::consume_ignored` meets its contract: a `_` has one byte, and the token reaches to the end of the name.
-- Assumes nothing.
use native.Mathlib.Omega.{arith}
use Rattle.names.specs.NameLaws.{ascii_len}
use Rattle.names.proofs.consume_ignored.Goals as goal

pub name_end-requires : goal.name_end-requires
name_end-requires c =
    let pre = c.requires in
    (pre.stands.0, pre.stands.1, ascii_len 95 pre.stands.0.well pre.lexer_value (omega arith))
