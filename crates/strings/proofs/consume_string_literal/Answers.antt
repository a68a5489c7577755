-- `strings::consume_string_literal` meets its contract. The loop's invariant is `Going`, and each arm cites its law of `Loops`.
-- Assumes nothing.
use mathlib.Core.Path.{sym, ap, ◌∙◌}
use Rattle.property.specs.Table.{properties_at}
use Rattle.text.specs.FollowLaws.{ends}
use Rattle.state.specs.Lexer.{reach_of}
use Rattle.strings.specs.ConsumeStringLiteral.{literal_turn, literal_token, consume_string_literal}
use Rattle.strings.specs.SafeLaws.{literal_safe}
use Rattle.newlines.proofs.Loops.{begun, going_well, Turns, passes_fit, passed, passes_fall, lines_fit, lined, lines_fall, closes_fit, closed, stopped}
use Rattle.strings.proofs.consume_string_literal.Goals as goal
use Rattle.strings.proofs.consume_string_literal.Goals.{After-literal_turn}

literal : (c : After-literal_turn)
    → Turns (literal_turn (properties_at c.args.table.now) c.args.quote) c.args.source.now (reach_of c.args.lexer)
    c.loop-i.reach c.loop-i.i c.literal_turn.result
literal c =
    record {
      safe = literal_safe _ _ _ c.requires.quote_bound;
      going = c.loop-i.invariant;
      within = c.loop-i-test.true;
      is = c.literal_turn.ensures;
    }

pub loop-i-init : goal.loop-i-init
loop-i-init c = begun c.reach-reach.ensures c.requires.stands.0

pub literal_turn-requires : goal.literal_turn-requires
literal_turn-requires c =
    let p = c.requires in
    record { well_formed = (going_well c.loop-i.invariant, c.loop-i-test.true); fit_table = (p.stands.1, p.quote_bound) }

pub along-reach-requires : goal.along-reach-requires
along-reach-requires c =
    record { byte_le_source_most = (passes_fit (literal (goal.at.along-reach-requires c).After-literal_turn) c.in-Pass.is).0; column_le_column_most = (passes_fit (literal (goal.at.along-reach-requires c).After-literal_turn) c.in-Pass.is).1 }

pub next_line-reach-requires : goal.next_line-reach-requires
next_line-reach-requires c =
    record { byte_le_source_most = (lines_fit (literal (goal.at.next_line-reach-requires c).After-literal_turn) c.in-Line.is).0; line_le_source_most = (lines_fit (literal (goal.at.next_line-reach-requires c).After-literal_turn) c.in-Line.is).1 }

pub along-requires : goal.along-requires
along-requires c =
    record { byte_le_source_most = (closes_fit (literal (goal.at.along-requires c).After-literal_turn) c.in-Close.is).0; column_le_column_most = (closes_fit (literal (goal.at.along-requires c).After-literal_turn) c.in-Close.is).1 }

pub returns-in-Close : goal.returns-in-Close
unfolding consume_string_literal
returns-in-Close c =
    c.token_to.ensures
    ∙ ap (literal_token _) (closed (literal (goal.at.returns-in-Close c).After-literal_turn) c.in-Close.is c.along.ensures)

pub returns-in-Stuck : goal.returns-in-Stuck
unfolding consume_string_literal
returns-in-Stuck c = c.stuck.ensures ∙ ap (literal_token _) (stopped (literal (goal.at.returns-in-Stuck c).After-literal_turn) c.in-Stuck.is)

pub loop-i-smaller-in-Pass : goal.loop-i-smaller-in-Pass
loop-i-smaller-in-Pass c = passes_fall (literal (goal.at.loop-i-smaller-in-Pass c).After-literal_turn) c.in-Pass.is c.along-reach.ensures

pub loop-i-preserved-in-Pass : goal.loop-i-preserved-in-Pass
loop-i-preserved-in-Pass c = passed (literal (goal.at.loop-i-preserved-in-Pass c).After-literal_turn) c.in-Pass.is c.along-reach.ensures

pub loop-i-smaller : goal.loop-i-smaller
loop-i-smaller c = lines_fall (literal (goal.at.loop-i-smaller c).After-literal_turn) c.in-Line.is c.next_line-reach.ensures

pub loop-i-preserved : goal.loop-i-preserved
loop-i-preserved c = lined (literal (goal.at.loop-i-preserved c).After-literal_turn) c.in-Line.is c.next_line-reach.ensures

pub returns : goal.returns
unfolding consume_string_literal
returns c = c.stuck-2.ensures ∙ ap (literal_token _) (sym (ends c.loop-i.invariant c.loop-i-test.false))
