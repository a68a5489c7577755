-- `turns::kept` meets its contract: the lexer is advanced along its line, and the record is that of the token between the two. Assumes nothing.
use native.Mathlib.Omega.{arith}
use mathlib.Core.Path.{◌≡◌, ap, ◌∙◌}
use Rattle.state.specs.Lexer.{advanced_line, settled, remembered}
use Rattle.reading.specs.Reading.{row_of}
use Rattle.turns.specs.TurnsLaws.{writes}
use Rattle.turns.proofs.kept.Goals as goal
use Rattle.turns.proofs.kept.Goals.{After-remember-next}

-- the lexer after the token
after_is : (m : After-remember-next)
    → m.remember-next.result ≡ remembered m.args.token.kind (advanced_line m.args.len (settled m.args.lexer))
after_is m =
    m.remember-next.ensures
    ∙ ap (remembered m.args.token.kind) (m.advance_line.ensures ∙ ap (advanced_line m.args.len) m.settle.ensures)

pub advance_line-requires : goal.advance_line-requires
advance_line-requires c =
    let p = c.requires in
    record { self_bound = rw c.settle.ensures (omega (arith, p.start, p.end)); self_bound_2 = rw c.settle.ensures (omega (arith, p.column)) }

pub row_of-requires : goal.row_of-requires
row_of-requires c =
    let p = c.requires in
    let a = after_is (goal.at.row_of-requires c).After-remember-next in
    record { previous_byte_bound = rw a (p.start, p.end); depth_le_depth_most = p.depth }

pub put-requires : goal.put-requires
put-requires c =
    let p = c.requires in
    (p.room, rw (c.row_of.ensures ∙ ap (row_of c.args.token c.args.lexer) (after_is (goal.at.put-requires c).After-remember-next)) p.packs)

pub returns : goal.returns
returns c =
    writes c.args.token c.args.lexer (after_is (goal.at.returns c).After-remember-next) c.row_of.ensures c.put.ensures
