-- `short::start_string` meets its contract: it is a token of one byte. Assumes nothing.
use mathlib.Core.Path.{refl}
use Rattle.token.specs.Kind.{string_start}
use Rattle.found.specs.FoundLaws.{finds_along}
use Rattle.short.proofs.start_string.Goals as goal

pub returns : goal.returns
returns c = finds_along string_start _ 1 _ c.along.ensures refl
