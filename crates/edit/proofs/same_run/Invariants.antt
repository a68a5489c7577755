-- `edit::same_run` meets its contract: `same` says so of the bytes that were compared. Assumes nothing.
use mathlib.Core.Path.{◌≡◌}
use Rattle.edit.specs.Edit.{same_run}
use Rattle.edit.proofs.same_run.Given as goal

-- k bytes were compared
abbrev pub invariant-loop-k : goal.invariant-loop-k
invariant-loop-k l = l.same ≡ same_run l.a l.i l.b l.j l.k
