-- `strings::consume_string_literal` meets its contract. The loop's invariant is `Going`, and each arm cites its law of `Loops`.
-- Assumes nothing.
use Prim.Native.Nat.{◌-◌}
use lib.ListN.{length}
use Rattle.property.specs.Table.{properties_at}
use Rattle.text.specs.Stands.{Going}
use Rattle.state.specs.Lexer.{reach_of}
use Rattle.strings.specs.ConsumeStringLiteral.{literal_turn}
use Rattle.strings.proofs.consume_string_literal.Given as goal

abbrev pub invariant-loop-i : goal.invariant-loop-i
invariant-loop-i l = Going (literal_turn (properties_at l.table) l.quote) l.source (reach_of l.lexer) l.reach l.i

abbrev pub decreases-loop-i : goal.decreases-loop-i
decreases-loop-i l = length l.source - l.i
