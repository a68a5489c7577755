-- `turns::passed` meets its contract: the record is written, and the modes stay. Assumes nothing.
use native.Mathlib.Omega.{arith}
use mathlib.Core.Path.{refl, ap}
use Rattle.state.specs.Lexer.{settled}
use Rattle.state.specs.State.{state_of}
use Rattle.state.specs.declared.Change.TheVariants.{Keep}
use Rattle.state.specs.declared.Lexer.{Lexer}
use Rattle.turns.specs.Turns.{Takes, line_taken}
use Rattle.turns.specs.TurnsLaws.{takes, writable, turned, turns_one, room_most_lem}
use Rattle.turns.proofs.passed.Goals as goal
use Rattle.turns.proofs.passed.Goals.{After-kept-arg-1}

taken : (a : After-kept-arg-1)
    → Takes a.args.source.now a.args.table.now a.args.edition a.args.lexer
    (line_taken a.args.token a.args.len Keep (settled a.args.lexer))
taken a = takes a.requires refl

pub kept-requires : goal.kept-requires
kept-requires c =
    let p = c.requires in
    writable _ _ _ _ _ c.args.codes.now _ _ p.ok p.fit p.room _ (taken c)

pub overflow_add-result : goal.overflow_add-result
overflow_add-result c =
    omega (arith, c.requires.room, room_most_lem c.args.layout c.args.list.now, c.well_formed)

pub returns : goal.returns
returns c =
    let p = c.requires in
    turns_one p.ok
    (turned _ _ _ _ _ c.args.codes.now _ _ p.ok p.fit p.room _ (taken (goal.at.returns c).After-kept-arg-1) c.kept.ensures.record_put
    (ap (λ (x : Lexer). state_of x c.args.codes.now) c.kept.ensures.after_it))
