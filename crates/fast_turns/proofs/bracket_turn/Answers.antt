-- `fast_turns::bracket_turn` meets its contract: what opens, what closes, or nothing is found. Assumes nothing.
use borrow.Author.Tests.{ne_eqb}
use mathlib.Core.Path.{refl, subst}
use Rattle.token.specs.Kind.{error}
use Rattle.text.specs.Stands.{Stands}
use Rattle.state.specs.Lexer.{reach_of}
use Rattle.state.specs.declared.Lexer.{Lexer}
use Rattle.brackets.specs.Brackets.{OpensIs, ClosesIs}
use Rattle.turns.specs.TurnsLaws.{turns_none}
use Rattle.fast_turns.specs.Steps.{Inside}
use Rattle.fast_turns.specs.StepsLaws.{at_stands, in_code}
use Rattle.fast_turns.proofs.bracket_turn.Goals as goal
use Rattle.fast_turns.proofs.bracket_turn.Goals.{Else-not-is_inside}

inside_at : (e : Else-not-is_inside)
    → Inside e.args.layout e.args.source.now e.args.list.now e.args.count e.args.lexer
inside_at e = e.is_inside.ensures.is e.if-not-is_inside.false

stands_at : (e : Else-not-is_inside) → Stands e.args.source.now (reach_of e.args.lexer)
stands_at e = at_stands e.args.edition e.requires.0 (inside_at e)

pub returns-then-not-is_inside : goal.returns-then-not-is_inside
returns-then-not-is_inside c = turns_none c.requires.0.ok c.stays.ensures

pub opens-opening-requires : goal.opens-opening-requires
opens-opening-requires c =
    rw c.settle.ensures (stands_at (goal.at.opens-opening-requires c).Else-not-is_inside, (inside_at (goal.at.opens-opening-requires c).Else-not-is_inside).within, c.requires.0.fit)

pub opened-requires : goal.opened-requires
opened-requires c =
    let p = c.requires in
    let n = ne_eqb c.opens-opening.result.token.kind error c.if-token-ne-ERROR.true in
    in_code c.args.edition p.0 (inside_at (goal.at.opened-requires c).Else-not-is_inside) p.1
    ((subst (λ (l : Lexer). OpensIs c.args.source.now c.args.table.now l c.opens-opening.result) c.settle.ensures c.opens-opening.ensures).is n) n

pub returns-then-token-ne-ERROR : goal.returns-then-token-ne-ERROR
returns-then-token-ne-ERROR c = c.opened.ensures

pub closes-requires : goal.closes-requires
closes-requires c =
    rw c.settle-2.ensures (stands_at (goal.at.closes-requires c).Else-not-is_inside, (inside_at (goal.at.closes-requires c).Else-not-is_inside).within, c.requires.0.fit)

pub closed-requires : goal.closed-requires
closed-requires c =
    let p = c.requires in
    rw c.token_of.ensures
    (in_code c.args.edition p.0 (inside_at (goal.at.closed-requires c).Else-not-is_inside) p.1
    ((subst (λ (l : Lexer). ClosesIs c.args.source.now c.args.table.now l c.closes.result) c.settle-2.ensures c.closes.ensures).is c.if-closes.true) refl)

pub returns-then-closes : goal.returns-then-closes
returns-then-closes c = c.closed.ensures

pub returns : goal.returns
returns c =
    turns_none c.requires.0.ok c.stays-2.ensures
