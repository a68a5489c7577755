-- `strings::consume_raw_string_contents` meets its contract. The outer loop's invariant is `Going`, the inner one's `AtQuote`. A missing
-- hash is the turn that passes the quote and the hashes before it, all of them the turn that closes; the other arms cite their laws of
-- `Loops`. Assumes nothing.
use Prim.Native.Nat.{◌-◌}
use lib.ListN.{length}
use Rattle.property.specs.Table.{properties_at}
use Rattle.text.specs.Stands.{Going}
use Rattle.state.specs.Lexer.{reach_of}
use Rattle.strings.specs.ConsumeRawString.{raw_turn}
use Rattle.strings.proofs.Counting.{AtQuote}
use Rattle.strings.proofs.consume_raw_string_contents.Given as goal

abbrev pub invariant-loop-k : goal.invariant-loop-k
invariant-loop-k l = AtQuote (properties_at l.table) l.delimiter l.quote l.hash_count l.source (reach_of l.lexer) l.initial.i l.reach l.i l.k

abbrev pub decreases-loop-k : goal.decreases-loop-k
decreases-loop-k l = l.hash_count - l.k

abbrev pub invariant-outer : goal.invariant-outer
invariant-outer l = Going (raw_turn (properties_at l.table) l.delimiter) l.source (reach_of l.lexer) l.reach l.i

abbrev pub decreases-outer : goal.decreases-outer
decreases-outer l = length l.source - l.i
