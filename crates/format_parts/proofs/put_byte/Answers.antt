-- `format_parts::put_byte` meets its contract: each return is a case of `byte_part`. Assumes nothing.
use native.Mathlib.Omega.{arith}
use mathlib.Core.Path.{◌≡◌, refl}
use lib.ListN.{length}
use Rattle.pool.specs.WrittenLaws.{write_none}
use Rattle.format_parts.specs.Parts.{byte_part}
use Rattle.format_parts.proofs.Behind.{put_one}
use Rattle.format_parts.proofs.put_byte.Goals as goal

pub bounds-row-at : goal.bounds-row-at
bounds-row-at c =
    let n : length (byte_part c.args.byte) ≡ 1 = rw c.in-Some.is refl in
    omega (arith, c.requires)

pub returns-in-Some : goal.returns-in-Some
returns-in-Some c =
    let n : length (byte_part c.args.byte) ≡ 1 = rw c.in-Some.is refl in
    rw c.in-Some.is (omega arith, put_one c.args.row.now c.args.at _ (omega (arith, c.requires)))

pub returns-in-None : goal.returns-in-None
returns-in-None c = rw c.in-None.is (omega arith, write_none c.args.row.now c.args.at)
