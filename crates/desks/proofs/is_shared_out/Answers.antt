-- `desks::is_shared_out` meets its contract. Assumes nothing.
use native.Mathlib.Omega.{arith}
use Rattle.desks.specs.RoomLaws.{in_common}
use mathlib.Core.Path.{sym}
use Rattle.base.specs.CasesLaws.{cases}
use Rattle.desks.specs.Desks.{shared_out}
use Rattle.desks.proofs.is_shared_out.Goals as goal

pub returns-then-room-owed : goal.returns-then-room-owed
unfolding shared_out
returns-then-room-owed c = sym (search cases)

pub returns-then-c-d : goal.returns-then-c-d
returns-then-c-d c =
    rw (c.saturating_sub-then-c-d.ensures, c.saturating_sub.ensures) (in_common _ _ _ _ _ _ (omega arith) c.if-c-d.true)

pub returns : goal.returns
unfolding shared_out
returns c = sym (search cases)
