-- `held::is_row` meets its contract: it compares what it has read of the list. Assumes nothing.
use mathlib.Core.Path.{◌∙◌}
use Rattle.rows.specs.Row.{row_at}
use Rattle.held.specs.Held.{is_one, is_row}
use Rattle.held.proofs.is_row.Goals as goal

pub returns : goal.returns
unfolding is_row row_at
returns c =
    let read = c.read_row.ensures in
    let first = c.first_at-first.ensures in
    c.is_one.ensures ∙ (λ i. is_one (first i) (read i) c.args.row)
