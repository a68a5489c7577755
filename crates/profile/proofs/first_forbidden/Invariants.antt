-- `profile::first_forbidden` meets its contract. The loop's invariant: what completes the pass from here completes it from the start. Assumes
-- nothing.
use Rattle.rows.specs.Row.{shown_at}
use Rattle.profile.specs.LoopLaws.{Going}
use Rattle.profile.proofs.first_forbidden.Given as goal

abbrev pub invariant-loop-i : goal.invariant-loop-i
invariant-loop-i l = Going (shown_at l.list) l.count l.opener l.i
