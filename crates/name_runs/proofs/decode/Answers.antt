-- `name_runs::decode` meets its contract: a character stands there, and the range of its lead byte says which of the three forms it has. Assumes nothing.
use Rattle.std.specs.Prelude.{Ok}
use native.Mathlib.Omega.{arith}
use mathlib.Core.Path.{◌≡◌, sym, ap, ◌∙◌}
use Rattle.utf8.specs.Read.{Read, read_at}
use Rattle.utf8.specs.Lengths.{char_of}
use Rattle.name_runs.proofs.Points.{two, three, four, room}
use Rattle.name_runs.proofs.decode.Goals as goal
use Rattle.name_runs.proofs.decode.Goals.{Else-a-lt240, Then-a-lt224, Then-a-lt240}

of2 : (t : Then-a-lt224) → read_at t.args.source.now t.args.at ≡ char_of 2 t.args.source.now t.args.at
of2 t = let p = t.requires in two t.args.source.now t.args.at p.0 p.1 p.2 t.if-a-lt224.true

pub bounds-source-at-then-a-lt224 : goal.bounds-source-at-then-a-lt224
bounds-source-at-then-a-lt224 c = omega (arith, room c.args.source.now c.args.at (of2 (goal.at.bounds-source-at-then-a-lt224 c).Then-a-lt224))

pub returns-then-a-lt224 : goal.returns-then-a-lt224
returns-then-a-lt224 c = of2 (goal.at.returns-then-a-lt224 c).Then-a-lt224 ∙ ap {B = Read} (λ x. Ok (x, 2)) (sym c.join2.ensures)

of3 : (t : Then-a-lt240) → read_at t.args.source.now t.args.at ≡ char_of 3 t.args.source.now t.args.at
of3 t = let p = t.requires in three t.args.source.now t.args.at p.0 p.1 p.2 t.if-a-lt224.false t.if-a-lt240.true

pub bounds-source-at-then-a-lt240 : goal.bounds-source-at-then-a-lt240
bounds-source-at-then-a-lt240 c = omega (arith, room c.args.source.now c.args.at (of3 (goal.at.bounds-source-at-then-a-lt240 c).Then-a-lt240))

pub bounds-source-at-then-a-lt240-2 : goal.bounds-source-at-then-a-lt240-2
bounds-source-at-then-a-lt240-2 c = omega (arith, room c.args.source.now c.args.at (of3 (goal.at.bounds-source-at-then-a-lt240-2 c).Then-a-lt240))

pub returns-then-a-lt240 : goal.returns-then-a-lt240
returns-then-a-lt240 c = of3 (goal.at.returns-then-a-lt240 c).Then-a-lt240 ∙ ap {B = Read} (λ x. Ok (x, 3)) (sym c.join3.ensures)

of4 : (t : Else-a-lt240) → read_at t.args.source.now t.args.at ≡ char_of 4 t.args.source.now t.args.at
of4 t = let p = t.requires in four t.args.source.now t.args.at p.0 p.1 p.2 t.if-a-lt240.false

pub bounds-source-at-2 : goal.bounds-source-at-2
bounds-source-at-2 c = omega (arith, room c.args.source.now c.args.at (of4 (goal.at.bounds-source-at-2 c).Else-a-lt240))

pub bounds-source-at-3 : goal.bounds-source-at-3
bounds-source-at-3 c = omega (arith, room c.args.source.now c.args.at (of4 (goal.at.bounds-source-at-3 c).Else-a-lt240))

pub bounds-source-at-4 : goal.bounds-source-at-4
bounds-source-at-4 c = omega (arith, room c.args.source.now c.args.at (of4 (goal.at.bounds-source-at-4 c).Else-a-lt240))

pub returns : goal.returns
returns c = of4 (goal.at.returns c).Else-a-lt240 ∙ ap {B = Read} (λ x. Ok (x, 4)) (sym c.join4.ensures)
