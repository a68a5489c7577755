-- `signs::sign` meets its contract: the row tells the symbol of the byte and the one behind it. Assumes nothing.
use native.Mathlib.Omega.{arith}
use Rattle.signs.specs.TableLaws.{behind_few, finds_entry}
use Rattle.signs.proofs.sign.Goals as goal

pub overflow_cast-first : goal.overflow_cast-first
overflow_cast-first c = omega (arith, c.shared_slice_known-2-1.given c.args.lexer.place.current_byte.0)

pub overflow_add-first : goal.overflow_add-first
overflow_add-first c = omega (arith, c.row_of.ensures, behind_few c.byte_at.result)

pub bounds-signs-first : goal.bounds-signs-first
bounds-signs-first c = omega (arith, c.row_of.ensures, behind_few c.byte_at.result)

pub returns : goal.returns
returns c =
    let p = c.requires in
    finds_entry c.args.source.now c.args.signs.now c.args.lexer p.stands.0 p.stands.1 p.lexer_bound.1 p.lexer_bound.0 c.byte_at.ensures
    c.row_of.ensures c.plain_of.ensures
