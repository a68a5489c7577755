-- `slide::move_down` meets its contract: `copy_within` writes what stood there. Assumes nothing.
use mathlib.Core.Path.{◌∙◌}
use Rattle.slide.proofs.Moving.{moved_down}
use Rattle.slide.proofs.move_down.Goals as goal

pub returns : goal.returns
returns c = c.copy_within.ensures.after ∙ moved_down _ _ _ _ c.requires.1
