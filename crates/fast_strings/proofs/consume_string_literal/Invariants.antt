-- `fast_strings::consume_string_literal` meets its contract. The loop's invariant is `Going`: what is found from here is what was to be found
-- from the start; what stays is passed at once, and each arm cites its law of `Loops`. Assumes nothing.
use Prim.Native.Nat.{◌-◌}
use lib.ListN.{length}
use Rattle.property.specs.Table.{properties_at}
use Rattle.state.specs.Lexer.{reach_of}
use Rattle.strings.specs.ConsumeStringLiteral.{literal_turn}
use Rattle.skip.specs.PastLaws.{Along}
use Rattle.fast_strings.proofs.consume_string_literal.Given as goal

abbrev pub invariant-loop-reach : goal.invariant-loop-reach
invariant-loop-reach l = Along (literal_turn (properties_at l.table) l.quote) l.source (reach_of l.lexer) l.reach

abbrev pub decreases-loop-reach : goal.decreases-loop-reach
decreases-loop-reach l = length l.source - l.reach.byte.0
