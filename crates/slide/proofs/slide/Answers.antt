-- `slide::slide` meets its contract. Assumes nothing.
use native.Mathlib.Omega.{arith}
use native.Mathlib.Numerals.{add-one}
use mathlib.Core.Path.{◌≡◌}
use lib.ListN.{length}
use Rattle.slide.proofs.Sliding.{room_at, none_done, asked, turned, end_long}
use Rattle.slide.proofs.slide.Goals as goal
use Rattle.slide.proofs.slide.Goals.{After-loop-i}

pub loop-i-init : goal.loop-i-init
loop-i-init c = none_done _ _ _ _

pub keep_one-laid-requires : goal.keep_one-laid-requires
keep_one-laid-requires c =
    asked _ _ _ _ _ _ _ _ _ _ c.loop-i.invariant (room_at _ _ _ _ _ c.requires.0 c.requires.1 c.requires.2 _ (omega arith))

pub loop-i-preserved : goal.loop-i-preserved
loop-i-preserved c =
    let room = room_at _ _ _ _ _ c.requires.0 c.requires.1 c.requires.2 c.loop-i.i (omega arith) in
    rw add-one (turned _ _ _ _ _ _ _ _ _ _ c.loop-i.invariant room _ _ _ _ _ c.keep_one-laid.ensures)

-- when the loop has ended
ends_long : (c : After-loop-i)
    → (length c.loop-i.bytes ≡ length c.args.bytes.now)
    × (length c.loop-i.entries ≡ length c.args.entries.now)
    × (length c.loop-i.owners ≡ length c.args.owners.now)
    × (length c.loop-i.moved ≡ length c.args.moved.now)
ends_long c =
    let p = c.requires in
    end_long _ _ _ _ _ _ _ _ c.args.counts _ _ p.0 p.1 p.2 (omega arith) c.loop-i.invariant

pub shape_of-bytes : goal.shape_of-bytes
shape_of-bytes c = (ends_long c).0

pub shape_of-entries : goal.shape_of-entries
shape_of-entries c = (ends_long c).1

pub shape_of-owners : goal.shape_of-owners
shape_of-owners c = (ends_long c).2

pub shape_of-moved : goal.shape_of-moved
shape_of-moved c = (ends_long c).3

pub returns : goal.returns
returns c =
    let e : c.loop-i.i ≡ c.args.counts.entries = omega arith in
    rw e at c.loop-i.invariant
