-- `format_parts::put_number` meets its contract: the digits of a number are its part. Assumes nothing.
use Rattle.std.specs.Prelude.{ℕ, Option}
use native.Mathlib.Omega.{arith}
use mathlib.Core.Path.{subst}
use Prim.Native.Nat.{◌+◌, ◌≤◌}
use lib.ListN.{length}
use Rattle.pool.specs.WrittenLaws.{write_none}
use Rattle.wanted.specs.Candidate.{width_part}
use Rattle.format_parts.proofs.put_number.Goals as goal

pub put_digits-requires : goal.put_digits-requires
put_digits-requires c =
    let m = c.in-Some in
    subst (λ (g : Option ℕ). c.args.at + length (width_part g) ≤ length c.args.row.now) m.is c.requires

pub returns-in-Some : goal.returns-in-Some
returns-in-Some c =
    rw c.in-Some.is c.put_digits.ensures

pub returns-in-None : goal.returns-in-None
returns-in-None c = rw c.in-None.is (omega arith, write_none c.args.row.now c.args.at)
