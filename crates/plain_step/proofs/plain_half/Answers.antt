-- `plain_step::plain_half` meets its contract: a token that is found is the one that the step takes; where none is, it is the step of `fast_step`.
-- Assumes nothing.
use borrow.Author.Tests.{ne_eqb}
use mathlib.Core.Path.{sym, ◌∙◌}
use Rattle.token.specs.Kind.{error}
use Rattle.plain_step.proofs.plain_half.Goals as goal

pub found_half-requires : goal.found_half-requires
found_half-requires c = ne_eqb c.find_plain-plain.result.kind error c.if-kind-ne-ERROR.true

pub returns-then-kind-ne-ERROR : goal.returns-then-kind-ne-ERROR
returns-then-kind-ne-ERROR c =
    c.found_half.ensures
    ∙ sym (c.find_plain-plain.ensures.is (ne_eqb c.find_plain-plain.result.kind error c.if-kind-ne-ERROR.true) c.args.edition)

pub returns : goal.returns
returns c = c.fast_half_near.ensures
