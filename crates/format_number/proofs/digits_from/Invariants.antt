-- `format_number::digits_from` meets its contract. The loop's invariant is `Digits`: what the digits from here on come to is what they came to from
-- the start. Assumes nothing.
use Prim.Native.Nat.{◌+◌, ◌-◌}
use lib.ListN.{length}
use Rattle.format_number.proofs.Digits.{Digits}
use Rattle.format_number.proofs.digits_from.Given as goal

abbrev pub invariant-loop-at : goal.invariant-loop-at
invariant-loop-at l = Digits l.format l.at l.first l.n l.digits

abbrev pub decreases-loop-at : goal.decreases-loop-at
decreases-loop-at l = length l.format - (l.at + l.digits)
