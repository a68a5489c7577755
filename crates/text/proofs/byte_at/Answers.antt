-- `text::byte_at` meets its contract: each return is a case of `byte_at`. Assumes nothing.
use borrow.Author.Tests.{lt-ltb, le-ltb}
use native.Mathlib.Omega.{arith}
use Rattle.text.proofs.byte_at.Goals as goal

pub overflow_cast-result : goal.overflow_cast-result
overflow_cast-result c = omega (arith, c.shared_slice_known-1.given c.args.at)

pub returns-then-at-source : goal.returns-then-at-source
returns-then-at-source c = rw (lt-ltb _ _ c.if-at-source.true)

pub returns : goal.returns
returns c = rw (le-ltb _ _ c.if-at-source.false)
