-- `fast_strings::consume_string_literal` meets its contract. The loop's invariant is `Going`: what is found from here is what was to be found
-- from the start; what stays is passed at once, and each arm cites its law of `Loops`. Assumes nothing.
use native.Mathlib.Omega.{arith}
use mathlib.Core.Path.{◌≡◌, refl, sym, ap, ◌∙◌}
use lib.ListN.{drop}
use Rattle.utf8.specs.Chars.{chars}
use Rattle.property.specs.Table.{properties_at}
use Rattle.text.specs.Follow.{turn_at}
use Rattle.text.specs.FollowLaws.{ends}
use Rattle.text.specs.declared.Turn.{Turn}
use Rattle.state.specs.Lexer.{reach_of}
use Rattle.newlines.proofs.Loops.{begun, going_well, Turns, passes_fit, passed, passes_fall, lines_fit, lined, lines_fall, closes_fit, closed, stopped}
use Rattle.strings.specs.ConsumeStringLiteral.{literal_turn, literal_token, consume_string_literal}
use Rattle.strings.specs.SafeLaws.{literal_safe}
use Rattle.strings.proofs.Counting.{along_none}
use Rattle.skip.specs.PastLaws.{Along, past_going}
use Rattle.fast_strings.specs.StaysLaws.{literal_stays, quote_ends, brace_ends}
use Rattle.fast_strings.proofs.consume_string_literal.Goals as goal
use Rattle.fast_strings.proofs.consume_string_literal.Goals.{After-byte_at-b, After-literal_turn, After-pass_near-reach}

-- past what stays
going : (c : After-pass_near-reach)
    → Along (literal_turn (properties_at c.args.table.now) c.args.quote) c.args.source.now (reach_of c.args.lexer)
    c.pass_near-reach.result
going c =
    let p = c.requires in
    past_going (literal_safe _ _ _ p.quote_bound) _ (literal_stays _ _ p.stands.1 _ p.quote_bound) c.loop-reach.invariant c.pass_near-reach.ensures

-- a turn there
turn : (c : After-byte_at-b) {t : Turn}
    → t ≡ turn_at (literal_turn (properties_at c.args.table.now) c.args.quote)
    (chars (drop c.pass_near-reach.result.byte.0 c.args.source.now))
    → Turns (literal_turn (properties_at c.args.table.now) c.args.quote)
    c.args.source.now (reach_of c.args.lexer) c.pass_near-reach.result
    c.pass_near-reach.result.byte.0 t
turn c e =
    record { safe = literal_safe _ _ _ c.requires.quote_bound; going = going (goal.at.After-byte_at-b c).After-pass_near-reach; within = c.if-source-i.false; is = e }

pub loop-reach-init : goal.loop-reach-init
loop-reach-init c = begun c.reach-reach.ensures c.requires.stands.0

pub pass_near-reach-requires : goal.pass_near-reach-requires
pass_near-reach-requires c = c.loop-reach.invariant.stands

pub returns-then-source-i : goal.returns-then-source-i
unfolding consume_string_literal
returns-then-source-i c = c.stuck.ensures ∙ ap (literal_token _) (sym (ends (going (goal.at.returns-then-source-i c).After-pass_near-reach) c.if-source-i.true))

pub returns-then-b-quote : goal.returns-then-b-quote
unfolding consume_string_literal
returns-then-b-quote c =
    let end = quote_ends _ _ _ c.requires.quote_bound _ c.if-source-i.false (going_well (going (goal.at.returns-then-b-quote c).After-pass_near-reach)) c.byte_at-b.ensures c.if-b-quote.true in
    c.token_to.ensures ∙ ap (literal_token _) (closed (turn (goal.at.returns-then-b-quote c).After-byte_at-b end) refl (along_none _))

pub returns-then-b-eq-CURLY_OPEN : goal.returns-then-b-eq-CURLY_OPEN
unfolding consume_string_literal
returns-then-b-eq-CURLY_OPEN c =
    let end = brace_ends _ _ _ c.requires.quote_bound _ c.if-source-i.false (going_well (going (goal.at.returns-then-b-eq-CURLY_OPEN c).After-pass_near-reach)) c.byte_at-b.ensures c.if-b-quote.false c.if-b-eq-CURLY_OPEN.true in
    c.token_to-then-b-eq-CURLY_OPEN.ensures ∙ ap (literal_token _) (closed (turn (goal.at.returns-then-b-eq-CURLY_OPEN c).After-byte_at-b end) refl (along_none _))

pub literal_turn-requires : goal.literal_turn-requires
literal_turn-requires c =
    let p = c.requires in
    record { well_formed = (going_well (going (goal.at.literal_turn-requires c).After-pass_near-reach), c.if-source-i.false); fit_table = (p.stands.1, p.quote_bound) }

-- the turn that was taken
literal : (c : After-literal_turn)
    → Turns (literal_turn (properties_at c.args.table.now) c.args.quote)
    c.args.source.now (reach_of c.args.lexer) c.pass_near-reach.result
    c.pass_near-reach.result.byte.0 c.literal_turn.result
literal c = turn (goal.at.After-literal_turn c).After-byte_at-b c.literal_turn.ensures

pub along-reach-requires : goal.along-reach-requires
along-reach-requires c =
    record { byte_le_source_most = (passes_fit (literal (goal.at.along-reach-requires c).After-literal_turn) c.in-Pass.is).0; column_le_column_most = (passes_fit (literal (goal.at.along-reach-requires c).After-literal_turn) c.in-Pass.is).1 }

pub loop-reach-smaller-in-Pass : goal.loop-reach-smaller-in-Pass
loop-reach-smaller-in-Pass c =
    omega (arith, passes_fall (literal (goal.at.loop-reach-smaller-in-Pass c).After-literal_turn) c.in-Pass.is c.along-reach.ensures, c.pass_near-reach.ensures.passed.on)

pub loop-reach-preserved-in-Pass : goal.loop-reach-preserved-in-Pass
loop-reach-preserved-in-Pass c = passed (literal (goal.at.loop-reach-preserved-in-Pass c).After-literal_turn) c.in-Pass.is c.along-reach.ensures

pub next_line-reach-requires : goal.next_line-reach-requires
next_line-reach-requires c =
    record { byte_le_source_most = (lines_fit (literal (goal.at.next_line-reach-requires c).After-literal_turn) c.in-Line.is).0; line_le_source_most = (lines_fit (literal (goal.at.next_line-reach-requires c).After-literal_turn) c.in-Line.is).1 }

pub loop-reach-smaller : goal.loop-reach-smaller
loop-reach-smaller c =
    omega (arith, lines_fall (literal (goal.at.loop-reach-smaller c).After-literal_turn) c.in-Line.is c.next_line-reach.ensures, c.pass_near-reach.ensures.passed.on)

pub loop-reach-preserved : goal.loop-reach-preserved
loop-reach-preserved c = lined (literal (goal.at.loop-reach-preserved c).After-literal_turn) c.in-Line.is c.next_line-reach.ensures

pub along-requires : goal.along-requires
along-requires c =
    record { byte_le_source_most = (closes_fit (literal (goal.at.along-requires c).After-literal_turn) c.in-Close.is).0; column_le_column_most = (closes_fit (literal (goal.at.along-requires c).After-literal_turn) c.in-Close.is).1 }

pub returns-in-Close : goal.returns-in-Close
unfolding consume_string_literal
returns-in-Close c =
    c.token_to-in-Close.ensures
    ∙ ap (literal_token _) (closed (literal (goal.at.returns-in-Close c).After-literal_turn) c.in-Close.is c.along.ensures)

pub returns-in-Stuck : goal.returns-in-Stuck
unfolding consume_string_literal
returns-in-Stuck c = c.stuck-in-Stuck.ensures ∙ ap (literal_token _) (stopped (literal (goal.at.returns-in-Stuck c).After-literal_turn) c.in-Stuck.is)
