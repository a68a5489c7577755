-- `decimal::put_digits` meets its contract: `Putting` is what the loop keeps, and the number that is left its measure. Assumes nothing.
use Prim.Native.Nat.{ℕ, ◌+◌}
use native.Mathlib.Omega.{arith}
use mathlib.Core.Path.{ap}
use Rattle.decimal.proofs.Putting.{put_start, put_room, put_more, put_last}
use Rattle.decimal.proofs.put_digits.Goals as goal

pub overflow_add-end : goal.overflow_add-end
overflow_add-end c = omega (arith, c.digit_count.ensures, c.requires, c.well_formed.0)

pub loop-rest-init : goal.loop-rest-init
loop-rest-init c = put_start _ _ _ c.requires _ (ap (λ (k : ℕ). c.args.at + k) c.digit_count.ensures)

pub overflow_sub-i : goal.overflow_sub-i
overflow_sub-i c = (put_room _ _ _ c.requires _ _ _ c.loop-rest.invariant).0

pub bounds-row-i : goal.bounds-row-i
bounds-row-i c =
    let r = put_room _ _ _ c.requires _ _ _ c.loop-rest.invariant in
    omega (arith, r.0, r.1)

pub returns-then-rest-lt10 : goal.returns-then-rest-lt10
returns-then-rest-lt10 c =
    (ap (λ (k : ℕ). c.args.at + k) c.digit_count.ensures, put_last _ _ _ c.requires _ _ _ c.loop-rest.invariant c.if-rest-lt10.true)

pub loop-rest-preserved : goal.loop-rest-preserved
loop-rest-preserved c =
    put_more _ _ _ c.requires _ _ _ c.loop-rest.invariant c.if-rest-lt10.false
