-- `half_rows::half_at` meets its contract: where the mark may stand it is left out, and `shown_by` says whether the rest may be shown. Assumes nothing.
use Rattle.std.proofs.Common.{rules}
use mathlib.Core.Path.{ap, ◌∙◌}
use Rattle.rows.specs.declared.Row.{Row}
use Rattle.half_rows.specs.Half.{first_at, row_at}
use Rattle.half_rows.specs.HalfLaws.{depth_below, shown_marked, shown_plain}
use Rattle.half_rows.proofs.half_at.Goals as goal

pub shown_by-requires : goal.shown_by-requires
unfolding row_at
shown_by-requires c =
    let a = c.args in
    ap (λ (r : Row). r.depth) c.read_half-row.ensures ∙ depth_below (first_at a.list.now a.i)

pub returns-then-may_stand : goal.returns-then-may_stand
returns-then-may_stand c =
    shown_marked _ _ _ c.read_half-row.ensures (search rules) c.shown_by.ensures

pub shown_by-requires-2 : goal.shown_by-requires-2
unfolding row_at
shown_by-requires-2 c = ap (λ (r : Row). r.depth) c.read_half-row.ensures

pub returns : goal.returns
returns c =
    shown_plain _ _ _ c.read_half-row.ensures (search rules) c.shown_by-2.ensures
