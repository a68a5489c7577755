-- `pool_rows::is_same` meets its contract: what is left from i on is the same exactly where the whole is. Assumes nothing.
use mathlib.Core.Path.{◌≡◌, refl, sym, ◌∙◌}
use native.Mathlib.Omega.{arith}
use lib.Dec.{eqb}
use lib.ListN.{length, take, drop}
use lib.Pointwise.{pointwise}
use Rattle.std.proofs.lemmas.List.{take_rest}
use Rattle.pool_rows.proofs.Loops.{unlike, differs, goes_on, told_same}
use Rattle.pool_rows.proofs.is_same.Goals as goal

pub returns-then-a-b : goal.returns-then-a-b
returns-then-a-b c = sym (unlike _ _ c.if-a-b.true)

pub loop-i-init : goal.loop-i-init
loop-i-init c = refl

pub returns-then-a-i : goal.returns-then-a-i
returns-then-a-i c =
    let turn = c.loop-i in
    sym (differs _ _ turn.i (omega arith) (omega arith) c.if-a-i.true) ∙ turn.invariant

pub loop-i-preserved : goal.loop-i-preserved
loop-i-preserved c =
    let turn = c.loop-i in
    sym (goes_on _ _ turn.i (omega arith) (omega arith) c.if-a-i.false) ∙ turn.invariant

pub returns : goal.returns
returns c =
    let a = c.args.a.now in
    let b = c.args.b.now in
    let n = c.min-near.result in
    let near : c.loop-i.i ≡ n = omega arith in
    c.eq.ensures
    ∙ (λ p. pointwise eqb (take_rest a n p) (take_rest b n p))
    ∙ told_same (drop n a) (drop n b)
    ∙ rw near at c.loop-i.invariant
