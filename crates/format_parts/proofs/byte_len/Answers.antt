-- `format_parts::byte_len` meets its contract: each return is a case of `byte_part`. Assumes nothing.
use native.Mathlib.Omega.{arith}
use mathlib.Core.Path.{refl}
use Rattle.format_parts.proofs.byte_len.Goals as goal

pub returns-in-Some : goal.returns-in-Some
returns-in-Some c = (rw c.in-Some.is refl, omega arith)

pub returns-in-None : goal.returns-in-None
returns-in-None c = (rw c.in-None.is refl, omega arith)
