-- `Cursor::there` meets its contract, by the status and by what is left. Assumes nothing.
use native.Mathlib.Omega.{arith}
use Rattle.cursor.specs.CursorLaws.{there_all, there_left, there_stuck}
use Rattle.cursor.proofs.Cursor.there.Goals as goal

pub returns-then-n-left : goal.returns-then-n-left
returns-then-n-left c =
    there_all c.args.self c.args.n c.in-End.is c.if-n-left.true

pub overflow_add-result-in-Stuck : goal.overflow_add-result-in-Stuck
overflow_add-result-in-Stuck c =
    omega (arith, c.requires.1, there_stuck c.args.self c.args.n c.in-Stuck.is)

pub returns-else-n-left : goal.returns-else-n-left
returns-else-n-left c =
    there_left c.args.self c.args.n c.in-End.is c.if-n-left.false

pub returns-in-Stuck : goal.returns-in-Stuck
returns-in-Stuck c = omega (arith, there_stuck c.args.self c.args.n c.in-Stuck.is)
