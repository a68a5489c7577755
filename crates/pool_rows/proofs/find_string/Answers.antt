-- `pool_rows::find_string` meets its contract: `Searching` is what the loop keeps. Assumes nothing.
use mathlib.Core.Path.{◌≡◌, sym, ◌∙◌}
use native.Mathlib.Omega.{arith}
use Rattle.pool_rows.proofs.Loops.{seek, found_here, not_here, none_left}
use Rattle.pool_rows.proofs.find_string.Goals as goal

pub loop-i-init : goal.loop-i-init
loop-i-init g c = seek _ _ _ _

pub is_at-requires : goal.is_at-requires
is_at-requires g c = rw (c.start.ensures, c.len.ensures) (c.requires.0 c.loop-i.i (omega arith))

pub returns-then-is_at : goal.returns-then-is_at
returns-then-is_at g c =
    let turn = c.loop-i in
    found_here _ _ _ _ _ turn.invariant (omega arith) (rw (c.start.ensures, c.len.ensures) at (sym c.is_at.ensures ∙ c.if-is_at.true))

pub loop-i-preserved : goal.loop-i-preserved
loop-i-preserved g c =
    let turn = c.loop-i in
    not_here _ _ _ _ _ turn.invariant (omega arith) (rw (c.start.ensures, c.len.ensures) at (sym c.is_at.ensures ∙ c.if-is_at.false))

pub returns : goal.returns
returns g c =
    let e : c.loop-i.i ≡ c.args.n = omega arith in
    sym e ∙ none_left _ _ _ _ _ c.loop-i.invariant (omega arith)
