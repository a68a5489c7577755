-- `turns::opened` meets its contract: the record is written, and the mode pushed; or there is no room for it, and nothing is done. Assumes nothing.
use borrow.Author.Tests.{le-ltb}
use native.Mathlib.Omega.{arith}
use mathlib.Core.Path.{ap, ◌∙◌}
use Rattle.state.specs.State.{state_of, pushed}
use Rattle.state.specs.declared.Lexer.{Lexer}
use Rattle.turns.specs.TurnsLaws.{takes, writable, turned, turns_one, room_most_lem}
use Rattle.turns.proofs.opened.Goals as goal

pub kept-next-requires : goal.kept-next-requires
kept-next-requires c =
    let p = c.requires in
    writable _ _ _ _ _ c.args.codes.now _ _ p.ok p.fit p.room _ (takes p (le-ltb 63 c.args.lexer.depth (omega arith)))

pub push-requires : goal.push-requires
push-requires c =
    rw c.kept-next.ensures.after_it (omega arith)

pub overflow_add-result : goal.overflow_add-result
overflow_add-result c =
    omega (arith, c.requires.room, room_most_lem c.args.layout c.args.list.now, c.well_formed)

pub returns : goal.returns
returns c =
    let p = c.requires in
    turns_one p.ok
    (turned _ _ _ _ _ c.args.codes.now _ _ p.ok p.fit p.room _ (takes p (le-ltb 63 c.args.lexer.depth (omega arith))) c.kept-next.ensures.record_put
    (c.push.ensures ∙ ap (λ (x : Lexer). pushed c.args.code (state_of x c.args.codes.now)) c.kept-next.ensures.after_it))
