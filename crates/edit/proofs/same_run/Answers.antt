-- `edit::same_run` meets its contract: `same` says so of the bytes that were compared. Assumes nothing.
use Prim.Native.Nat.{ℕ, ◌+◌}
use native.Mathlib.Omega.{arith}
use native.Mathlib.Numerals.{add-one}
use mathlib.Core.Path.{◌≡◌, refl, sym, ap, ◌∙◌}
use mathlib.Core.Bool.{Bool, true, false, ◌&&◌}
use mathlib.Core.List.{List}
use lib.Dec.{eqb}
use lib.ListN.{get_or}
use Rattle.base.specs.Pick.{pick}
use Rattle.edit.specs.Edit.{same_run}
use Rattle.edit.proofs.same_run.Goals as goal

also : (same here : Bool) → (same && here) ≡ pick here same false
also true true = refl
also true false = refl
also false true = refl
also false false = refl

-- one byte more
one_more_lem : (a : List ℕ) (i : ℕ) (b : List ℕ) (j k : ℕ) {same : Bool} → same ≡ same_run a i b j k
    → (same && eqb (get_or a (i + k) 0) (get_or b (j + k) 0)) ≡ same_run a i b j (k + 1)
one_more_lem a i b j k {same} e =
    also same (eqb (get_or a (i + k) 0) (get_or b (j + k) 0))
    ∙ ap (λ (s : Bool). pick (eqb (get_or a (i + k) 0) (get_or b (j + k) 0)) s false) e
    ∙ ap (same_run a i b j) (sym (add-one k))

pub loop-k-init : goal.loop-k-init
loop-k-init c = refl

pub loop-k-preserved : goal.loop-k-preserved
loop-k-preserved c =
    let a = c.args in
    one_more_lem a.a.now a.i a.b.now a.j c.loop-k.k c.loop-k.invariant

pub returns : goal.returns
returns c =
    let whole : c.loop-k.k ≡ c.args.n = omega arith in
    c.loop-k.invariant ∙ ap (same_run _ _ _ _) whole
