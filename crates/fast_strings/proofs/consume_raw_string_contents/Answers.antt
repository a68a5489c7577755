-- `fast_strings::consume_raw_string_contents` meets its contract. The outer loop's invariant is `Going`, the inner one's `AtQuote`; what stays is
-- passed at once. A missing hash is the turn that passes the quote and the hashes before it, all of them the turn that closes; the other arms
-- cite their laws of `Loops`. Assumes nothing.
use native.Mathlib.Omega.{arith}
use Prim.Native.Nat.{ℕ, ◌+◌}
use mathlib.Core.Path.{refl, sym, ap, ◌∙◌}
use Rattle.position.specs.declared.Reach.{Reach}
use Rattle.property.specs.Table.{properties_at}
use Rattle.text.specs.FollowLaws.{ends}
use Rattle.text.specs.declared.Turn.{Turn}
use Rattle.text.specs.declared.Turn.TheVariants.{Pass}
use Rattle.state.specs.Lexer.{reach_of}
use Rattle.newlines.proofs.Loops.{begun, going_well, Turns, passes_fit, passed, passes_fall, lines_fit, lined, lines_fall, closes_fit, closed, stopped}
use Rattle.strings.specs.ConsumeRawString.{raw_turn, raw_token, consume_raw_string_contents}
use Rattle.strings.specs.SafeLaws.{raw_safe}
use Rattle.strings.specs.TurnLaws.{quote_ascii}
use Rattle.strings.proofs.Counting.{begins_count, counts_more, short_turn, full_turn, other_turn, along_none}
use Rattle.skip.specs.PastLaws.{Along, past_going}
use Rattle.fast_strings.specs.StaysLaws.{raw_stays}
use Rattle.fast_strings.proofs.consume_raw_string_contents.Goals as goal
use Rattle.fast_strings.proofs.consume_raw_string_contents.Goals.{After-pass-reach, After-plain_turn, Then-byte_at-ne-HASH}

-- past what stays
going : (c : After-pass-reach)
    → Along (raw_turn (properties_at c.args.table.now) c.args.delimiter) c.args.source.now
    (reach_of c.args.lexer) c.pass-reach.result
going c =
    past_going (raw_safe _ _ _) _ (raw_stays _ _ c.requires.stands.1 _ _ c.quote_of-quote.ensures)
    c.outer.invariant c.pass-reach.ensures

-- a turn at a place behind it
abbrev Taken-at : (c : After-pass-reach) → Reach → ℕ → Turn → Type 0
Taken-at c r i t =
    Turns (raw_turn (properties_at c.args.table.now) c.args.delimiter) c.args.source.now
    (reach_of c.args.lexer) r i t

-- a hash is missing
missing : (c : Then-byte_at-ne-HASH)
    → Taken-at (goal.at.Then-byte_at-ne-HASH c).After-pass-reach c.loop-k.reach c.pass-reach.result.byte.0
    (Pass (1 + c.loop-k.k) (1 + c.loop-k.k))
missing c =
    short_turn c.loop-k.invariant c.loop-k-test.true
    (λ e. c.if-byte_at-ne-HASH.true (c.byte_at-in-loop-k.ensures ∙ e))

-- no quote stands there
plain : (c : After-plain_turn)
    → Taken-at (goal.at.After-plain_turn c).After-pass-reach c.pass-reach.result c.pass-reach.result.byte.0 c.plain_turn.result
plain c =
    other_turn _ _ (going (goal.at.After-plain_turn c).After-pass-reach) c.if-source-i.false
    (λ e. c.if-byte_at-quote.false (c.byte_at.ensures ∙ e ∙ sym c.quote_of-quote.ensures))
    c.plain_turn.ensures

pub overflow_cast-end_quote : goal.overflow_cast-end_quote
overflow_cast-end_quote c = omega (arith, c.quote_of-quote.ensures, quote_ascii c.args.delimiter)

pub outer-init : goal.outer-init
outer-init c = begun c.reach-reach.ensures c.requires.stands.0

pub pass-reach-requires : goal.pass-reach-requires
pass-reach-requires c = c.outer.invariant.stands

pub returns-then-source-i : goal.returns-then-source-i
unfolding consume_raw_string_contents
returns-then-source-i c = c.stuck.ensures ∙ ap (raw_token _ _) (sym (ends (going (goal.at.returns-then-source-i c).After-pass-reach) c.if-source-i.true))

pub loop-k-init : goal.loop-k-init
loop-k-init c =
    begins_count (going (goal.at.loop-k-init c).After-pass-reach) c.quote_of-quote.ensures c.hash_count_of-hash_count.ensures (sym c.byte_at.ensures ∙ c.if-byte_at-quote.true)

pub overflow_add-i : goal.overflow_add-i
overflow_add-i c = omega (arith, c.loop-k.invariant.counted.inside)

pub overflow_add-i-in-loop-k : goal.overflow_add-i-in-loop-k
overflow_add-i-in-loop-k c = omega (arith, c.loop-k.invariant.counted.inside)

pub overflow_add-k : goal.overflow_add-k
overflow_add-k c = omega (arith, c.loop-k.invariant.counted.inside)

pub along_ascii-reach-requires : goal.along_ascii-reach-requires
along_ascii-reach-requires c =
    record { byte_le_source_most = omega (arith, c.loop-k.invariant.going.stands, c.loop-k.invariant.counted.less, c.hash_count_of-hash_count.ensures, c.requires.delimiter_bound); column_le_column_most = omega (arith, c.loop-k.invariant.going.stands, c.loop-k.invariant.counted.less, c.hash_count_of-hash_count.ensures, c.requires.delimiter_bound) }

pub outer-smaller-then-byte_at-ne-HASH : goal.outer-smaller-then-byte_at-ne-HASH
outer-smaller-then-byte_at-ne-HASH c =
    omega (arith, passes_fall (missing (goal.at.outer-smaller-then-byte_at-ne-HASH c).Then-byte_at-ne-HASH) refl c.along_ascii-reach.ensures, c.pass-reach.ensures.passed.on)

pub outer-preserved-then-byte_at-ne-HASH : goal.outer-preserved-then-byte_at-ne-HASH
outer-preserved-then-byte_at-ne-HASH c = passed (missing (goal.at.outer-preserved-then-byte_at-ne-HASH c).Then-byte_at-ne-HASH) refl c.along_ascii-reach.ensures

pub loop-k-preserved : goal.loop-k-preserved
loop-k-preserved c =
    counts_more c.loop-k.invariant c.loop-k-test.true (sym c.byte_at-in-loop-k.ensures ∙ c.if-byte_at-ne-HASH.false)

pub returns-then-byte_at-quote : goal.returns-then-byte_at-quote
unfolding consume_raw_string_contents
returns-then-byte_at-quote c =
    c.raw_closed.ensures
    ∙ ap (raw_token _ _) (closed (full_turn c.loop-k.invariant c.loop-k-test.false) refl (along_none _))

pub plain_turn-requires : goal.plain_turn-requires
plain_turn-requires c =
    record { well_formed = (going_well (going (goal.at.plain_turn-requires c).After-pass-reach), c.if-source-i.false); fit_table = c.requires.stands.1 }

pub along-reach-requires : goal.along-reach-requires
along-reach-requires c =
    record { byte_le_source_most = (passes_fit (plain (goal.at.along-reach-requires c).After-plain_turn) c.in-Pass.is).0; column_le_column_most = (passes_fit (plain (goal.at.along-reach-requires c).After-plain_turn) c.in-Pass.is).1 }

pub outer-smaller-in-Pass : goal.outer-smaller-in-Pass
outer-smaller-in-Pass c =
    omega (arith, passes_fall (plain (goal.at.outer-smaller-in-Pass c).After-plain_turn) c.in-Pass.is c.along-reach.ensures, c.pass-reach.ensures.passed.on)

pub outer-preserved-in-Pass : goal.outer-preserved-in-Pass
outer-preserved-in-Pass c = passed (plain (goal.at.outer-preserved-in-Pass c).After-plain_turn) c.in-Pass.is c.along-reach.ensures

pub next_line-reach-requires : goal.next_line-reach-requires
next_line-reach-requires c =
    record { byte_le_source_most = (lines_fit (plain (goal.at.next_line-reach-requires c).After-plain_turn) c.in-Line.is).0; line_le_source_most = (lines_fit (plain (goal.at.next_line-reach-requires c).After-plain_turn) c.in-Line.is).1 }

pub outer-smaller : goal.outer-smaller
outer-smaller c =
    omega (arith, lines_fall (plain (goal.at.outer-smaller c).After-plain_turn) c.in-Line.is c.next_line-reach.ensures, c.pass-reach.ensures.passed.on)

pub outer-preserved : goal.outer-preserved
outer-preserved c = lined (plain (goal.at.outer-preserved c).After-plain_turn) c.in-Line.is c.next_line-reach.ensures

pub along-requires : goal.along-requires
along-requires c =
    record { byte_le_source_most = (closes_fit (plain (goal.at.along-requires c).After-plain_turn) c.in-Close.is).0; column_le_column_most = (closes_fit (plain (goal.at.along-requires c).After-plain_turn) c.in-Close.is).1 }

pub raw_closed-requires-in-Close : goal.raw_closed-requires-in-Close
raw_closed-requires-in-Close c =
    c.requires.delimiter_bound

pub returns-in-Close : goal.returns-in-Close
unfolding consume_raw_string_contents
returns-in-Close c =
    c.raw_closed-in-Close.ensures
    ∙ ap (raw_token _ _) (closed (plain (goal.at.returns-in-Close c).After-plain_turn) c.in-Close.is c.along.ensures)

pub returns-in-Stuck : goal.returns-in-Stuck
unfolding consume_raw_string_contents
returns-in-Stuck c = c.stuck-in-Stuck.ensures ∙ ap (raw_token _ _) (stopped (plain (goal.at.returns-in-Stuck c).After-plain_turn) c.in-Stuck.is)
