-- `fast_comments::consume_comment_multi` meets its contract. The loop's invariant is `Going`: what is found from here is what was to be found
-- from the start; what stays is passed at once, and each arm cites its law of `Loops`. Assumes nothing.
use Prim.Native.Nat.{◌-◌}
use lib.ListN.{length}
use Rattle.position.specs.Place.{along_by}
use Rattle.property.specs.Table.{properties_at}
use Rattle.state.specs.Lexer.{reach_of}
use Rattle.comments.specs.ConsumeComment.{comment_turn}
use Rattle.skip.specs.PastLaws.{Along}
use Rattle.fast_comments.proofs.consume_comment_multi.Given as goal

abbrev pub invariant-loop-lexer : goal.invariant-loop-lexer
invariant-loop-lexer l = Along (comment_turn (properties_at l.table)) l.source (along_by 1 1 (reach_of l.lexer)) l.reach

abbrev pub decreases-loop-lexer : goal.decreases-loop-lexer
decreases-loop-lexer l = length l.source - l.reach.byte.0
