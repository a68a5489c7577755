-- `format::read_format` meets its contract. The loop's invariant is `Going`: nothing has failed, and the reading from here on is the whole
-- reading. Assumes nothing.
use Prim.Native.Nat.{◌-◌}
use lib.ListN.{length}
use Rattle.property.specs.Table.{properties_at}
use Rattle.format.proofs.Going.{Going}
use Rattle.format.proofs.read_format.Given as goal

abbrev pub invariant-loop-code : goal.invariant-loop-code
invariant-loop-code l = Going (properties_at l.table) l.edition l.format l.p

abbrev pub decreases-loop-code : goal.decreases-loop-code
decreases-loop-code l = length l.format - l.p.at
