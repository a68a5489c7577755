-- `desks::one_held` meets its contract. Assumes nothing.
use mathlib.Core.Path.{sym, ◌∙◌}
use Rattle.base.specs.CasesLaws.{cases}
use Rattle.desks.proofs.one_held.Goals as goal

pub returns-then-its-owner : goal.returns-then-its-owner
returns-then-its-owner c = c.one_more.ensures ∙ sym (search cases)

pub returns : goal.returns
returns c = sym (search cases)
