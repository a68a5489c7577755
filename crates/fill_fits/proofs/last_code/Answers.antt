-- `fill_fits::last_code` meets its contract: `Last` is what the loop keeps, and how many bytes are left its measure. Assumes nothing.
use Prim.Native.Nat.{◌+◌, ◌<◌}
use native.Mathlib.Omega.{arith}
use mathlib.Core.Path.{sym, subst, ◌∙◌}
use Rattle.utf8.specs.CharsLaws.{Stops}
use Rattle.utf8.proofs.Tags.{stopped}
use Rattle.fill_fits.proofs.Last.{Last, last_start, last_more, last_all}
use Rattle.fill_fits.proofs.last_code.Goals as goal
use Rattle.fill_fits.proofs.last_code.Goals.{In-Ok}

pub loop-code-init : goal.loop-code-init
loop-code-init c = last_start _

pub returns-in_default : goal.returns-in_default
returns-in_default c =
    last_all _ _ _ c.loop-code.invariant (subst Stops c.read_char.ensures (stopped c.read_char.result c.in_default.not-Ok))

turn : (c : In-Ok)
    → (0 < c.in-Ok.len)
    × Last c.args.fill.now (c.loop-code.at + c.in-Ok.len) c.in-Ok.code
turn c =
    last_more c.args.fill.now c.loop-code.at c.loop-code.last c.loop-code.invariant _ _
    (sym c.read_char.ensures ∙ c.in-Ok.is)

pub overflow_add-at : goal.overflow_add-at
overflow_add-at c = omega (arith, (turn c).1.within, c.well_formed.0)

pub loop-code-smaller : goal.loop-code-smaller
loop-code-smaller c =
    let m = turn c in
    omega (arith, m.0, m.1.within)

pub loop-code-preserved : goal.loop-code-preserved
loop-code-preserved c = (turn c).1
