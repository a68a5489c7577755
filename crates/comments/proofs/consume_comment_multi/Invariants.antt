-- `comments::consume_comment_multi` meets its contract. The loop's invariant is `Going`: what is found from here is what was to be found
-- from the start. Each arm cites its law of `Loops`. Assumes nothing.
use Prim.Native.Nat.{◌-◌}
use lib.ListN.{length}
use Rattle.position.specs.Place.{along_by}
use Rattle.property.specs.Table.{properties_at}
use Rattle.text.specs.Stands.{Going}
use Rattle.state.specs.Lexer.{reach_of}
use Rattle.comments.specs.ConsumeComment.{comment_turn}
use Rattle.comments.proofs.consume_comment_multi.Given as goal

abbrev pub invariant-loop-i : goal.invariant-loop-i
invariant-loop-i l = Going (comment_turn (properties_at l.table)) l.source (along_by 1 1 (reach_of l.lexer)) l.reach l.i

abbrev pub decreases-loop-i : goal.decreases-loop-i
decreases-loop-i l = length l.source - l.i
