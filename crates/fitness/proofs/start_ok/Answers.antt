-- `fitness::start_ok` meets its contract: each return is a case of `start_ok`. Assumes nothing.
use mathlib.Core.Path.{sym}
use Rattle.base.specs.CasesLaws.{cases}
use Rattle.fitness.specs.Fit.{start_ok}
use Rattle.fitness.proofs.start_ok.Goals as goal

pub returns-then-i-eq0 : goal.returns-then-i-eq0
unfolding start_ok
returns-then-i-eq0 c = sym (search cases)

pub returns : goal.returns
unfolding start_ok
returns c = sym (search cases)
