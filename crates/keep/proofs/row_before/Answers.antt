-- `keep::row_before` meets its contract: an index that is not 0 has one below it. Assumes nothing.
use Prim.Native.Nat.{ℕ, zero, suc, ◌*◌, ◌-◌}
use native.Mathlib.Omega.{arith}
use mathlib.Core.Path.{◌≡◌, ap, ◌∙◌}
use mathlib.Core.List.{List}
use Rattle.rows.specs.Row.{row_words, row_from, row_at}
use Rattle.rows.specs.declared.Row.{Row}
use Rattle.keep.specs.Keep.{row_before}
use Rattle.keep.proofs.row_before.Goals as goal

is_before : (list : List ℕ) (i : ℕ) {row : Row} → (i ≡ 0 → ⊥) → row ≡ row_from list (row_words * (i - 1)) → row ≡ row_before list i
unfolding row_at
is_before list zero n e = absurd (omega (arith, n))
is_before list (suc i) n e = e ∙ ap (row_at list) (omega arith)

pub returns : goal.returns
returns c =
    let a = c.args in
    is_before a.list.now a.i c.if-i-eq0.false c.read_row.ensures
