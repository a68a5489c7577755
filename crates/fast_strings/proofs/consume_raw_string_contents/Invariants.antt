-- `fast_strings::consume_raw_string_contents` meets its contract. The outer loop's invariant is `Going`, the inner one's `AtQuote`; what stays is
-- passed at once. A missing hash is the turn that passes the quote and the hashes before it, all of them the turn that closes; the other arms
-- cite their laws of `Loops`. Assumes nothing.
use Prim.Native.Nat.{◌-◌}
use lib.ListN.{length}
use Rattle.property.specs.Table.{properties_at}
use Rattle.state.specs.Lexer.{reach_of}
use Rattle.strings.specs.ConsumeRawString.{raw_turn}
use Rattle.strings.proofs.Counting.{AtQuote}
use Rattle.skip.specs.PastLaws.{Along}
use Rattle.fast_strings.proofs.consume_raw_string_contents.Given as goal

abbrev pub invariant-loop-k : goal.invariant-loop-k
invariant-loop-k l = AtQuote (properties_at l.table) l.delimiter l.quote l.hash_count l.source (reach_of l.lexer) l.i l.reach l.i l.k

abbrev pub decreases-loop-k : goal.decreases-loop-k
decreases-loop-k l = l.hash_count - l.k

abbrev pub invariant-outer : goal.invariant-outer
invariant-outer l = Along (raw_turn (properties_at l.table) l.delimiter) l.source (reach_of l.lexer) l.reach

abbrev pub decreases-outer : goal.decreases-outer
decreases-outer l = length l.source - l.reach.byte.0
