-- `turns::line_feed` meets its contract: the lexer is at the start of the next line. Assumes nothing.
use native.Mathlib.Omega.{arith}
use mathlib.Core.Path.{◌≡◌, ap, ◌∙◌}
use Rattle.position.specs.Place.{line_by}
use Rattle.token.specs.Kind.{new_line}
use Rattle.token.specs.Token.{token_of}
use Rattle.token.specs.declared.Token.{Token}
use Rattle.state.specs.Lexer.{advanced_to, reach_of, settled, remembered}
use Rattle.reading.specs.Reading.{row_of}
use Rattle.turns.specs.TurnsLaws.{writes}
use Rattle.turns.proofs.line_feed.Goals as goal
use Rattle.turns.proofs.line_feed.Goals.{After-remember-next}

-- the lexer after the token
after_is : (m : After-remember-next)
    → m.remember-next.result ≡ remembered new_line (advanced_to (line_by 1 (reach_of m.args.lexer)) (settled m.args.lexer))
after_is m =
    m.remember-next.ensures
    ∙ ap (remembered new_line)
    (m.advance_to_position.ensures
    ∙ (λ i. advanced_to ((m.next_line.ensures ∙ ap (line_by 1) m.reach-reach.ensures) i) (m.settle.ensures i)))

pub next_line-requires : goal.next_line-requires
next_line-requires c =
    let p = c.requires in
    record { byte_le_source_most = rw c.reach-reach.ensures (omega (arith, p.start, p.end, p.line)); line_le_source_most = rw c.reach-reach.ensures (omega (arith, p.start, p.end, p.line)) }

pub row_of-requires : goal.row_of-requires
row_of-requires c =
    let p = c.requires in
    let a = after_is (goal.at.row_of-requires c).After-remember-next in
    record { previous_byte_bound = rw a (p.start, p.end); depth_le_depth_most = p.depth }

pub put-requires : goal.put-requires
put-requires c =
    let p = c.requires in
    (p.room, rw (c.row_of.ensures ∙ ap (λ (t : Token). row_of t c.args.lexer c.remember-next.result) c.token_of.ensures ∙ ap (row_of (token_of new_line) c.args.lexer) (after_is (goal.at.put-requires c).After-remember-next)) p.packs)

pub returns : goal.returns
returns c =
    writes (token_of new_line) c.args.lexer (after_is (goal.at.returns c).After-remember-next)
    (c.row_of.ensures ∙ ap (λ (t : Token). row_of t c.args.lexer c.remember-next.result) c.token_of.ensures) c.put.ensures
