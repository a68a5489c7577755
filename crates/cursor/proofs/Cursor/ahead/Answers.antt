-- `Cursor::ahead` meets its contract: the place is below the last one, or it is not. Assumes nothing.
use native.Mathlib.Omega.{arith}
use Rattle.cursor.specs.CursorLaws.{ahead_own, ahead_last}
use Rattle.cursor.proofs.Cursor.ahead.Goals as goal

pub returns-then-n-last : goal.returns-then-n-last
returns-then-n-last c =
    ahead_own c.args.self c.args.n c.last_place-last.ensures (omega arith)

pub returns-else-n-last : goal.returns-else-n-last
returns-else-n-last c =
    ahead_last c.args.self c.args.n c.last_place-last.ensures (omega arith)

pub returns-else-self-last : goal.returns-else-self-last
returns-else-self-last c =
    ahead_last c.args.self c.args.n c.last_place-last.ensures (omega arith)
