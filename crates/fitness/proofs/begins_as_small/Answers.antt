-- `fitness::begins_as_small` meets its contract: its tests are the definition's, in the same order. Assumes nothing.
use native.Mathlib.Omega.{arith}
use mathlib.Core.Path.{sym, ap}
use lib.ListN.{length}
use lib.Seq.{length-take-le}
use borrow.Author.Tests.{lt-ltb, le-ltb}
use Rattle.fitness.specs.Quick.{begins_as_small}
use Rattle.fitness.specs.QuickLaws.{small_next}
use Rattle.fitness.proofs.begins_as_small.Goals as goal

pub returns-then-table-le15 : goal.returns-then-table-le15
unfolding begins_as_small
returns-then-table-le15 c = rw (le-ltb 15 _ c.if-table-le15.true)

pub slice_bounds-eq-end-2 : goal.slice_bounds-eq-end-2
slice_bounds-eq-end-2 c =
    sym (length-take-le 15 c.args.small.now (omega (arith, ap length c.requires, small_next)))

pub returns : goal.returns
unfolding begins_as_small
returns c =
    rw (lt-ltb 15 _ c.if-table-le15.false, c.eq-same.ensures, c.requires)
