-- `rows::copy::copy_rows` meets its contract: the numbers up to i are those of the first list.
-- Assumes nothing.
use Prim.Native.Nat.{ℕ, ◌+◌, ◌*◌, ◌≤◌, ◌<◌}
use native.Mathlib.Omega.{arith}
use native.Mathlib.Nat.{zero-add}
use native.Mathlib.Numerals.{add-one}
use mathlib.Core.Path.{◌≡◌, refl, sym, ap, ◌∙◌}
use mathlib.Core.List.{List, ◌++◌}
use lib.ListN.{get_or, set, take, drop, length-set}
use lib.Seq.{paste, paste-zero, paste-suc}
use Rattle.rows.specs.Row.{row_words, room, copy_rows}
use Rattle.rows.proofs.copy.copy_rows.Goals as goal
use Rattle.rows.proofs.copy.copy_rows.Invariants.{Copied}

copy_one : {from old : List ℕ} {n : ℕ} {row : List ℕ} {i : ℕ} → Copied from old n row i → i < row_words * n → n ≤ room from → n ≤ room old
    → Copied from old n (set row i (get_or from i 0)) (i + 1)
copy_one {from} {old} {n} {row} {i} c h f t =
    record {
      within = omega arith;
      long = length-set row i (get_or from i 0) ∙ c.long;
      holds = ap (λ (l : List ℕ). set l i (get_or from i 0)) c.holds
          ∙ ap (λ (k : ℕ). set (paste old 0 from i) k (get_or from i 0)) (sym (zero-add i))
          ∙ paste-suc old 0 from i 0 (omega arith) (omega arith)
          ∙ ap (paste old 0 from) (sym (add-one i));
    }

copy_all : {from old : List ℕ} {n : ℕ} {row : List ℕ} {i : ℕ} → Copied from old n row i → row_words * n ≤ i → row ≡ copy_rows n from old
unfolding copy_rows
copy_all {from} {old} {n} {row} {i} c h =
    let e : i ≡ row_words * n = omega (arith, c.within) in
    c.holds ∙ ap (paste old 0 from) e ∙ ap (λ (k : ℕ). take (row_words * n) from ++ drop k old) (zero-add (row_words * n))

pub loop-i-init : goal.loop-i-init
loop-i-init c = record { within = omega arith; long = refl; holds = paste-zero c.args.to.now 0 c.args.from.now }

pub loop-i-preserved : goal.loop-i-preserved
loop-i-preserved c =
    copy_one c.loop-i.invariant (omega arith) c.requires.0 c.requires.1

pub returns : goal.returns
returns c = copy_all c.loop-i.invariant (omega arith)
