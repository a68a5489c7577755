-- `rows::row_at` meets its contract: what `read_row` answers is record i, and `shown_by` says whether it may be shown. Assumes nothing.
use Rattle.std.specs.Prelude.{Option}
use mathlib.Core.Path.{◌≡◌, ap, ◌∙◌}
use mathlib.Core.List.{List}
use Prim.Native.Nat.{ℕ, ◌*◌}
use Rattle.rows.specs.First.{shown_below}
use Rattle.rows.specs.Row.{row_words, row_from, row_at, above_at, shown_at}
use Rattle.rows.specs.declared.Row.{Row}
use Rattle.rows.proofs.row_at.Goals as goal

pub shown_by-requires : goal.shown_by-requires
shown_by-requires c = ap (λ (r : Row). r.depth) c.read_row.ensures

-- what is answered of record i, by the row that was read
shown : (l : List ℕ) (i : ℕ) {row : Row} {v : Option Row} → row ≡ row_from l (row_words * i) → v ≡ shown_below (above_at l i) row → v ≡ shown_at l i
unfolding shown_at row_at
shown l i e p = p ∙ ap (shown_below (above_at l i)) e

pub returns : goal.returns
returns c = shown _ _ c.read_row.ensures c.shown_by.ensures
