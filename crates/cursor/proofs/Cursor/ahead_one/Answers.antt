-- `Cursor::ahead_one` meets its contract: the place is at most the last one, or it is past it. Assumes nothing.
use native.Mathlib.Omega.{arith}
use Rattle.cursor.specs.CursorLaws.{ahead_own, ahead_last}
use Rattle.cursor.proofs.Cursor.ahead_one.Goals as goal

pub returns-then-self-last : goal.returns-then-self-last
returns-then-self-last c =
    ahead_own c.args.self 1 c.last_place-last.ensures (omega arith)

pub returns : goal.returns
returns c =
    ahead_last c.args.self 1 c.last_place-last.ensures (omega arith)
