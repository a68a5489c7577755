-- `fast_step::fast_half_near` meets its contract: a token that is found is the one that the step takes; where none is, it is the long half. Assumes nothing.
use borrow.Author.Tests.{ne_eqb}
use mathlib.Core.Path.{sym, ◌∙◌}
use Rattle.token.specs.Kind.{error}
use Rattle.fast_step.proofs.fast_half_near.Goals as goal

pub found_half-requires : goal.found_half-requires
found_half-requires c = ne_eqb c.find_short-short.result.kind error c.if-short-ne-ERROR.true

pub returns-then-short-ne-ERROR : goal.returns-then-short-ne-ERROR
returns-then-short-ne-ERROR c =
    c.found_half.ensures
    ∙ sym (c.find_short-short.ensures.is (ne_eqb c.find_short-short.result.kind error c.if-short-ne-ERROR.true) c.args.edition)

pub long_half-requires : goal.long_half-requires
long_half-requires c = (c.requires.0, c.requires.1)

pub returns : goal.returns
returns c = c.long_half.ensures
