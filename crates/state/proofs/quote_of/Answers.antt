-- `state::quote_of` meets its contract: each return is a case of `quote_of`. Assumes nothing.
use mathlib.Core.Path.{sym}
use Rattle.base.specs.CasesLaws.{cases}
use Rattle.state.proofs.quote_of.Goals as goal

pub returns-then-delimiter-eq0 : goal.returns-then-delimiter-eq0
returns-then-delimiter-eq0 c = sym (search cases)

pub returns : goal.returns
returns c = sym (search cases)
