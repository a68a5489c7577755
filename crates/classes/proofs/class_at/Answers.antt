-- `classes::class_at` meets its contract: a byte is below 256, where the table has its class. Assumes nothing.
use native.Mathlib.Omega.{arith}
use Rattle.classes.proofs.class_at.Goals as goal

pub overflow_cast-b : goal.overflow_cast-b
overflow_cast-b c = omega (arith, c.shared_slice_known-1.given c.args.at)

pub bounds-classes-b : goal.bounds-classes-b
bounds-classes-b c = omega (arith, c.shared_slice_known-1.given c.args.at)

pub returns : goal.returns
returns c = c.requires.1.at _ (omega (arith, c.shared_slice_known-1.given c.args.at))
