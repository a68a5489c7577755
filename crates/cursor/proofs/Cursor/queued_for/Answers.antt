-- `Cursor::queued_for` meets its contract: the larger of what is queued and of what is there. Assumes nothing.
use native.Mathlib.Omega.{arith}
use mathlib.Core.Path.{◌≡◌, refl, ap}
use Rattle.cursor.specs.Cursor.{queued_for, queueing}
use Rattle.cursor.specs.CursorLaws.{queued_for_lem, there_queued}
use Rattle.cursor.proofs.Cursor.queued_for.Goals as goal

pub there-requires : goal.there-requires
there-requires c = (c.requires.0, omega (arith, c.requires.1, there_queued c.args.self c.args.n))

pub returns : goal.returns
returns c =
    let a = c.args in
    let e : c.max.result ≡ queued_for a.self a.n = omega (arith, queued_for_lem a.self a.n refl) in
    ap (queueing a.self) e
