-- `skip::count` meets its contract. The loop's invariant is the contract, of the k bytes that were looked at. Assumes nothing.
use native.Mathlib.Omega.{arith}
use mathlib.Core.Path.{◌≡◌}
use Rattle.skip.specs.SkipLaws.{counts_none, counts_more}
use Rattle.skip.proofs.count.Goals as goal

pub loop-k-init : goal.loop-k-init
loop-k-init g c = (omega arith, counts_none _)

pub loop-k-preserved : goal.loop-k-preserved
loop-k-preserved g c =
    (omega arith, counts_more c.loop-k.invariant.1 c.stays.ensures c.place_out-out.ensures c.smaller-n.ensures)

pub returns : goal.returns
returns g c =
    let all : c.loop-k.k ≡ c.args.block = omega (arith, c.loop-k.invariant.0) in
    rw all at c.loop-k.invariant.1
