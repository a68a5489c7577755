-- `edit::lengths_fit` meets its contract: it compares differences where `lengths_fit` compares sums. Assumes nothing.
use Prim.Native.Nat.{ℕ, ◌+◌, ◌-◌, ◌≤◌, ◌<◌}
use native.Mathlib.Omega.{arith}
use mathlib.Core.Path.{◌≡◌}
use mathlib.Core.Bool.{false}
use lib.Dec.{eqb}
use borrow.Author.Tests.{le-leb, lt-leb, eq-eqb, ne_eqb}
use Rattle.base.specs.PickLaws.{split_eq}
use Rattle.edit.specs.Edit.{lengths_fit}
use Rattle.edit.specs.declared.Edit.{Edit}
use Rattle.edit.proofs.lengths_fit.Goals as goal

-- the edit reaches past the old source
past : (old : ℕ) (e : Edit) (new : ℕ) → old < e.place + e.removed → false ≡ lengths_fit old e new
past old e new h = rw (lt-leb (e.place + e.removed) old h)

-- it does not, and both tests of the new length agree

module _ (old : ℕ) (e : Edit) (new : ℕ) (h : e.place + e.removed ≤ old) where
  other : (new + e.removed ≡ old + e.put_in → ⊥) → false ≡ lengths_fit old e new
  other n = rw (le-leb (e.place + e.removed) old h, ne_eqb (new + e.removed) (old + e.put_in) n)

  same : e.put_in ≤ new → eqb (new - e.put_in) (old - e.removed) ≡ lengths_fit old e new
  same k =
      split_eq (new + e.removed) (old + e.put_in)
      (λ n. rw (le-leb (e.place + e.removed) old h, eq-eqb (new + e.removed) (old + e.put_in) n)
      (eq-eqb (new - e.put_in) (old - e.removed) (omega arith)))
      (λ n. rw (le-leb (e.place + e.removed) old h, ne_eqb (new + e.removed) (old + e.put_in) n)
      (ne_eqb (new - e.put_in) (old - e.removed) (λ m. n (omega arith))))

pub returns-then-old-edit : goal.returns-then-old-edit
returns-then-old-edit c =
    let a = c.args in
    past a.old a.edit a.new (omega arith)

pub returns-then-old-edit-2 : goal.returns-then-old-edit-2
returns-then-old-edit-2 c =
    let a = c.args in
    past a.old a.edit a.new (omega arith)

pub returns-then-new-edit : goal.returns-then-new-edit
returns-then-new-edit c =
    let a = c.args in
    other a.old a.edit a.new (omega arith) (λ n. omega arith)

pub returns : goal.returns
returns c =
    let a = c.args in
    same a.old a.edit a.new (omega arith) (omega arith)
