-- `brackets::none` meets its contract: its kind is Error. Assumes nothing.
use mathlib.Core.Path.{ap}
use Rattle.brackets.specs.declared.Opening.{Opening}
use Rattle.brackets.proofs.none.Goals as goal

pub returns : goal.returns
returns c = ap (λ (o : Opening). o.token.kind) c.open_with.ensures
