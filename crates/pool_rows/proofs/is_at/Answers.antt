-- `pool_rows::is_at` meets its contract: the part that is compared is the entry's string. Assumes nothing.
use mathlib.Core.Path.{refl, ◌∙◌}
use Rattle.pool_rows.proofs.Loops.{cut_out}
use Rattle.pool_rows.proofs.is_at.Goals as goal

pub returns : goal.returns
returns c =
    let a = c.args in
    c.is_same.ensures ∙ cut_out a.bytes.now a.string.now a.start a.long _ refl
