-- `turns::blank` meets its contract: the lexer is advanced along its line, with the indent that the blanks make. Assumes nothing.
use native.Mathlib.Omega.{arith}
use mathlib.Core.Path.{◌≡◌, ap, ◌∙◌}
use Rattle.token.specs.Kind.{whitespace}
use Rattle.token.specs.Token.{token_of}
use Rattle.token.specs.declared.Token.{Token}
use Rattle.state.specs.Lexer.{advanced_line, settled, indented, remembered}
use Rattle.reading.specs.Reading.{row_of}
use Rattle.turns.specs.TurnsLaws.{writes}
use Rattle.turns.proofs.blank.Goals as goal
use Rattle.turns.proofs.blank.Goals.{After-remember-next}

-- the lexer after the token
after_is : (m : After-remember-next)
    → m.remember-next.result ≡ remembered whitespace (advanced_line m.args.len (indented m.args.len (settled m.args.lexer)))
after_is m =
    let n = m.args.len in
    m.remember-next.ensures
    ∙ ap (remembered whitespace)
    (m.advance_line.ensures
    ∙ ap (advanced_line n) (m.indent_by.ensures ∙ ap (indented n) m.settle.ensures))

pub advance_line-requires : goal.advance_line-requires
advance_line-requires c =
    let p = c.requires in
    record {
      self_bound = rw (c.indent_by.ensures, c.settle.ensures) (omega (arith, p.start, p.end));
      self_bound_2 = rw (c.indent_by.ensures, c.settle.ensures) (omega (arith, p.column));
    }

pub row_of-requires : goal.row_of-requires
row_of-requires c =
    let p = c.requires in
    let a = after_is (goal.at.row_of-requires c).After-remember-next in
    record { previous_byte_bound = rw a (p.start, p.end); depth_le_depth_most = p.depth }

pub put-requires : goal.put-requires
put-requires c =
    let p = c.requires in
    (p.room, rw (c.row_of.ensures ∙ ap (λ (t : Token). row_of t c.args.lexer c.remember-next.result) c.token_of.ensures ∙ ap (row_of (token_of whitespace) c.args.lexer) (after_is (goal.at.put-requires c).After-remember-next)) p.packs)

pub returns : goal.returns
returns c =
    writes (token_of whitespace) c.args.lexer (after_is (goal.at.returns c).After-remember-next)
    (c.row_of.ensures ∙ ap (λ (t : Token). row_of t c.args.lexer c.remember-next.result) c.token_of.ensures) c.put.ensures
