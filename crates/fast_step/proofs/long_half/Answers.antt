-- `fast_step::long_half` meets its contract: a token that is found is the one that the step takes; where none is, it is the step of `lexer`. Assumes nothing.
use borrow.Author.Tests.{ne_eqb}
use mathlib.Core.Path.{sym, ap, subst, ◌∙◌}
use Rattle.property.specs.Table.{properties_at}
use Rattle.token.specs.Kind.{error}
use Rattle.state.specs.declared.Lexer.{Lexer}
use Rattle.lexer.specs.Fine.{Fine}
use Rattle.lexer.specs.Step.{half}
use Rattle.lexer.specs.declared.Half.{Half}
use Rattle.fast_step.specs.FastStep.{StepFinds}
use Rattle.fast_step.proofs.long_half.Goals as goal

pub find_long-long-requires : goal.find_long-long-requires
find_long-long-requires c =
    (subst (Fine c.args.source.now) (sym c.copied.ensures) c.requires.0, c.requires.1)

pub found_half-requires : goal.found_half-requires
found_half-requires c = ne_eqb c.find_long-long.result.kind error c.if-long-ne-ERROR.true

pub returns-then-long-ne-ERROR : goal.returns-then-long-ne-ERROR
returns-then-long-ne-ERROR c =
    let found =
    subst (λ (x : Lexer). StepFinds c.args.source.now c.args.table.now x c.find_long-long.result) c.copied.ensures
    c.find_long-long.ensures in
    c.found_half.ensures ∙ sym (found.is (ne_eqb c.find_long-long.result.kind error c.if-long-ne-ERROR.true) c.args.edition)

pub read_half-half-requires : goal.read_half-half-requires
read_half-half-requires c =
    (subst (Fine c.args.source.now) (sym c.copied-2.ensures) c.requires.0, c.requires.1)

pub returns : goal.returns
returns c =
    let h : Half = c.read_half-half.result in
    ap (λ (x : Lexer). record { what = h.what; lexer = x; change = h.change }) c.copied-3.ensures
    ∙ c.read_half-half.ensures
    ∙ ap (half (properties_at c.args.table.now) c.args.edition c.args.source.now) c.copied-2.ensures
