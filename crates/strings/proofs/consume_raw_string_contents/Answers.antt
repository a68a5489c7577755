-- `strings::consume_raw_string_contents` meets its contract. The outer loop's invariant is `Going`, the inner one's `AtQuote`. A missing
-- hash is the turn that passes the quote and the hashes before it, all of them the turn that closes; the other arms cite their laws of
-- `Loops`. Assumes nothing.
use native.Mathlib.Omega.{arith}
use Prim.Native.Nat.{ℕ, ◌+◌}
use Rattle.std.proofs.Common.{rules}
use mathlib.Core.Path.{refl, sym, ap, ◌∙◌}
use Rattle.position.specs.declared.Reach.{Reach}
use Rattle.property.specs.Table.{properties_at}
use Rattle.text.specs.FollowLaws.{ends}
use Rattle.text.specs.declared.Turn.{Turn}
use Rattle.text.specs.declared.Turn.TheVariants.{Pass}
use Rattle.state.specs.Lexer.{reach_of}
use Rattle.strings.specs.ConsumeRawString.{raw_turn, raw_token, consume_raw_string_contents}
use Rattle.newlines.proofs.Loops.{begun, going_well, Turns, passes_fit, passed, passes_fall, lines_fit, lined, lines_fall, closes_fit, closed, stopped}
use Rattle.strings.proofs.Counting.{begins_count, counts_more, short_turn, full_turn, other_turn, along_none}
use Rattle.strings.proofs.consume_raw_string_contents.Goals as goal
use Rattle.strings.proofs.consume_raw_string_contents.Goals.{After-plain_turn, At-outer, Then-byte_at-ne-HASH}

-- a turn at a place that the outer loop has come to
abbrev Taken-at : (c : At-outer) → Reach → ℕ → Turn → Type 0
Taken-at c r i t =
    Turns (raw_turn (properties_at c.args.table.now) c.args.delimiter) c.args.source.now
    (reach_of c.args.lexer) r i t

-- a hash is missing
missing : (c : Then-byte_at-ne-HASH)
    → Taken-at (goal.at.Then-byte_at-ne-HASH c).At-outer c.loop-k.reach c.loop-k.i (Pass (1 + c.loop-k.k) (1 + c.loop-k.k))
missing c =
    short_turn c.loop-k.invariant c.loop-k-test.true
    (λ e. c.if-byte_at-ne-HASH.true (c.byte_at-in-loop-k.ensures ∙ e))

-- no quote stands there
plain : (c : After-plain_turn)
    → Taken-at (goal.at.After-plain_turn c).At-outer c.outer.reach c.outer.i c.plain_turn.result
plain c =
    other_turn _ _ c.outer.invariant c.outer-test.true
    (λ e. c.if-byte_at-quote.false (c.byte_at.ensures ∙ e ∙ sym c.quote_of-quote.ensures))
    c.plain_turn.ensures

pub outer-init : goal.outer-init
outer-init c = begun c.reach-reach.ensures c.requires.stands.0

pub loop-k-init : goal.loop-k-init
loop-k-init c =
    let e =
    begins_count c.outer.invariant c.quote_of-quote.ensures c.hash_count_of-hash_count.ensures
    (sym c.byte_at.ensures ∙ c.if-byte_at-quote.true) in
    search (rules, e)

pub overflow_add-i : goal.overflow_add-i
overflow_add-i c = omega (arith, c.loop-k.invariant.counted.inside)

pub overflow_add-i-in-loop-k : goal.overflow_add-i-in-loop-k
overflow_add-i-in-loop-k c = omega (arith, c.loop-k.invariant.counted.inside)

pub overflow_add-k : goal.overflow_add-k
overflow_add-k c = omega (arith, c.loop-k.invariant.counted.inside)

pub along_ascii-reach-requires : goal.along_ascii-reach-requires
along_ascii-reach-requires c =
    omega (arith, c.loop-k.invariant.going.stands, c.loop-k.invariant.counted.less, c.hash_count_of-hash_count.ensures, c.requires.delimiter_bound)

pub outer-smaller-then-byte_at-ne-HASH : goal.outer-smaller-then-byte_at-ne-HASH
outer-smaller-then-byte_at-ne-HASH c = omega (arith, passes_fall (missing (goal.at.outer-smaller-then-byte_at-ne-HASH c).Then-byte_at-ne-HASH) refl c.along_ascii-reach.ensures, c.loop-k.invariant.at)

pub outer-preserved-then-byte_at-ne-HASH : goal.outer-preserved-then-byte_at-ne-HASH
outer-preserved-then-byte_at-ne-HASH c = passed (missing (goal.at.outer-preserved-then-byte_at-ne-HASH c).Then-byte_at-ne-HASH) refl c.along_ascii-reach.ensures

pub loop-k-preserved : goal.loop-k-preserved
loop-k-preserved c =
    counts_more c.loop-k.invariant c.loop-k-test.true (sym c.byte_at-in-loop-k.ensures ∙ c.if-byte_at-ne-HASH.false)

pub returns-then-byte_at-quote : goal.returns-then-byte_at-quote
unfolding consume_raw_string_contents
returns-then-byte_at-quote c =
    c.raw_closed.ensures
    ∙ ap (raw_token _ _) (closed (full_turn c.loop-k.invariant c.loop-k-test.false) refl (along_none _))

pub plain_turn-requires : goal.plain_turn-requires
plain_turn-requires c =
    record { well_formed = (going_well c.outer.invariant, c.outer-test.true); fit_table = c.requires.stands.1 }

pub along-reach-requires : goal.along-reach-requires
along-reach-requires c =
    record { byte_le_source_most = (passes_fit (plain (goal.at.along-reach-requires c).After-plain_turn) c.in-Pass.is).0; column_le_column_most = (passes_fit (plain (goal.at.along-reach-requires c).After-plain_turn) c.in-Pass.is).1 }

pub next_line-reach-requires : goal.next_line-reach-requires
next_line-reach-requires c =
    record { byte_le_source_most = (lines_fit (plain (goal.at.next_line-reach-requires c).After-plain_turn) c.in-Line.is).0; line_le_source_most = (lines_fit (plain (goal.at.next_line-reach-requires c).After-plain_turn) c.in-Line.is).1 }

pub along-requires : goal.along-requires
along-requires c =
    record { byte_le_source_most = (closes_fit (plain (goal.at.along-requires c).After-plain_turn) c.in-Close.is).0; column_le_column_most = (closes_fit (plain (goal.at.along-requires c).After-plain_turn) c.in-Close.is).1 }

pub returns-in-Close : goal.returns-in-Close
unfolding consume_raw_string_contents
returns-in-Close c =
    c.raw_closed-in-Close.ensures
    ∙ ap (raw_token _ _) (closed (plain (goal.at.returns-in-Close c).After-plain_turn) c.in-Close.is c.along.ensures)

pub returns-in-Stuck : goal.returns-in-Stuck
unfolding consume_raw_string_contents
returns-in-Stuck c = c.stuck.ensures ∙ ap (raw_token _ _) (stopped (plain (goal.at.returns-in-Stuck c).After-plain_turn) c.in-Stuck.is)

pub outer-smaller-in-Pass : goal.outer-smaller-in-Pass
outer-smaller-in-Pass c = passes_fall (plain (goal.at.outer-smaller-in-Pass c).After-plain_turn) c.in-Pass.is c.along-reach.ensures

pub outer-preserved-in-Pass : goal.outer-preserved-in-Pass
outer-preserved-in-Pass c = passed (plain (goal.at.outer-preserved-in-Pass c).After-plain_turn) c.in-Pass.is c.along-reach.ensures

pub outer-smaller : goal.outer-smaller
outer-smaller c = lines_fall (plain (goal.at.outer-smaller c).After-plain_turn) c.in-Line.is c.next_line-reach.ensures

pub outer-preserved : goal.outer-preserved
outer-preserved c = lined (plain (goal.at.outer-preserved c).After-plain_turn) c.in-Line.is c.next_line-reach.ensures

pub returns : goal.returns
unfolding consume_raw_string_contents
returns c = c.stuck-2.ensures ∙ ap (raw_token _ _) (sym (ends c.outer.invariant c.outer-test.false))
