-- `fast_turns::format_turn` meets its contract: the options, or nothing is found. Assumes nothing.
use borrow.Author.Tests.{ne_eqb}
use mathlib.Core.Path.{subst}
use Rattle.token.specs.Kind.{error}
use Rattle.state.specs.Lexer.{settled}
use Rattle.state.specs.declared.Lexer.{Lexer}
use Rattle.fast_options.specs.FormatOptions.{FindsOptions}
use Rattle.literal_arms.specs.LiteralArmsLaws.{takes_options}
use Rattle.turns.specs.TurnsLaws.{turns_none}
use Rattle.fast_turns.specs.Steps.{Inside}
use Rattle.fast_turns.specs.StepsLaws.{at_stands, ready_by}
use Rattle.fast_turns.proofs.format_turn.Goals as goal
use Rattle.fast_turns.proofs.format_turn.Goals.{Else-not-is_inside}

inside_at : (e : Else-not-is_inside)
    → Inside e.args.layout e.args.source.now e.args.list.now e.args.count e.args.lexer
inside_at e = e.is_inside.ensures.is e.if-not-is_inside.false

pub returns-then-not-is_inside : goal.returns-then-not-is_inside
returns-then-not-is_inside c = turns_none c.requires.0.ok c.stays.ensures

pub format_options-plain-requires : goal.format_options-plain-requires
format_options-plain-requires c =
    rw c.settle.ensures (at_stands c.args.edition c.requires.0 (inside_at (goal.at.format_options-plain-requires c).Else-not-is_inside))

pub closed-requires : goal.closed-requires
closed-requires c =
    let p = c.requires in
    let s = c.args.source.now in
    let n = ne_eqb c.format_options-plain.result.kind error c.if-plain-ne-ERROR.true in
    rw c.token_of.ensures
    (ready_by c.args.edition p.0 (inside_at (goal.at.closed-requires c).Else-not-is_inside)
    ((takes_options s c.args.table.now c.args.edition (settled c.args.lexer) p.1 p.0.fit
    (subst (λ (l : Lexer). FindsOptions s l c.format_options-plain.result) c.settle.ensures c.format_options-plain.ensures)
    ).is n) n)

pub returns-then-plain-ne-ERROR : goal.returns-then-plain-ne-ERROR
returns-then-plain-ne-ERROR c = c.closed.ensures

pub returns : goal.returns
returns c = turns_none c.requires.0.ok c.stays-2.ensures
