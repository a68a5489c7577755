-- `pad_input::check_fill` meets its contract: the code takes the tests of `fill_check` in its order. Assumes nothing.
use mathlib.Core.Path.{sym, ◌∙◌}
use Rattle.utf8.specs.CharsLaws.{well_of_fine}
use Rattle.pad_input.specs.Check.{fill_check}
use Rattle.pad_input.proofs.Tests.{checks, hands}
use Rattle.pad_input.proofs.check_fill.Goals as goal

pub count_clusters-requires : goal.count_clusters-requires
count_clusters-requires c = (well_of_fine 0 _ (sym c.check_utf8.ensures ∙ c.in-Ok.is), c.requires)

pub returns-then-count_clusters-eq1 : goal.returns-then-count_clusters-eq1
unfolding fill_check
returns-then-count_clusters-eq1 c = sym (search hands depth 14)

pub returns-in-Err : goal.returns-in-Err
unfolding fill_check
returns-in-Err c = sym (search checks depth 14)

pub returns-else-count_clusters-eq1 : goal.returns-else-count_clusters-eq1
unfolding fill_check
returns-else-count_clusters-eq1 c = sym (search checks depth 14)
