-- `pool_rows::is_fit` meets its contract: the code takes the tests of `fit_in` in its order. Assumes nothing.
use mathlib.Core.Path.{sym}
use Rattle.base.specs.CasesLaws.{cases}
use Rattle.pool_rows.specs.Rows.{fit_in}
use Rattle.pool_rows.proofs.is_fit.Goals as goal

pub returns-then-entry_room-counts : goal.returns-then-entry_room-counts
unfolding fit_in
returns-then-entry_room-counts c = sym (search cases)

pub returns-then-byte_room-counts : goal.returns-then-byte_room-counts
unfolding fit_in
returns-then-byte_room-counts c = sym (search cases)

pub returns : goal.returns
unfolding fit_in
returns c = sym (search cases)
