-- `rows::first::shown_by` meets its contract: its tests are those of `fits_below`, of which the first two are one. Assumes nothing.
use mathlib.Core.Path.{sym}
use Rattle.base.specs.CasesLaws.{cases}
use Rattle.rows.specs.FirstLaws.{below_unfit, upper_over, upper_low}
use Rattle.rows.proofs.first.shown_by.Goals as goal

pub returns-then-first-gt-DEPTH_MOST : goal.returns-then-first-gt-DEPTH_MOST
returns-then-first-gt-DEPTH_MOST c =
    sym (below_unfit _ c.args.row (upper_over c.args.first c.args.row c.requires c.if-first-gt-DEPTH_MOST.true))

pub returns-then-row-gt-KIND_MOST : goal.returns-then-row-gt-KIND_MOST
returns-then-row-gt-KIND_MOST c =
    rw (upper_low c.args.first c.args.row c.requires c.if-first-gt-DEPTH_MOST.false) (sym (search cases))

pub returns-then-detail_allowed : goal.returns-then-detail_allowed
returns-then-detail_allowed c =
    rw (upper_low c.args.first c.args.row c.requires c.if-first-gt-DEPTH_MOST.false) (sym (search cases))

pub returns : goal.returns
returns c =
    rw (upper_low c.args.first c.args.row c.requires c.if-first-gt-DEPTH_MOST.false) (sym (search cases))
