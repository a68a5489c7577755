-- `property::run_near` meets its contract: the run that is tried has the code point, or halving finds the run. Assumes nothing.
use mathlib.Core.Path.{sym, ◌∙◌}
use Rattle.property.specs.TableLaws.{has_code_lem}
use Rattle.property.proofs.run_near.Goals as goal

pub returns-then-has_code : goal.returns-then-has_code
returns-then-has_code c =
    has_code_lem _ _ _ c.requires (sym c.has_code.ensures ∙ c.if-has_code.true)
