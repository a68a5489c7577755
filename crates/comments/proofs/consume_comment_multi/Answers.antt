-- `comments::consume_comment_multi` meets its contract. The loop's invariant is `Going`: what is found from here is what was to be found
-- from the start. Each arm cites its law of `Loops`. Assumes nothing.
use native.Mathlib.Omega.{arith}
use Rattle.std.proofs.Common.{rules}
use mathlib.Core.Path.{refl, sym, ap, ◌∙◌}
use Rattle.position.specs.Place.{along_by}
use Rattle.property.specs.Table.{properties_at}
use Rattle.text.specs.FollowLaws.{ends}
use Rattle.state.specs.Lexer.{reach_of}
use Rattle.comments.specs.ConsumeComment.{comment_turn, comment_token, consume_comment_multi}
use Rattle.comments.specs.CommentLaws.{comment_safe}
use Rattle.newlines.proofs.Loops.{begun, going_well, Turns, passes_fit, passed, passes_fall, lines_fit, lined, lines_fall, closes_fit, closed, stopped}
use Rattle.comments.proofs.consume_comment_multi.Goals as goal
use Rattle.comments.proofs.consume_comment_multi.Goals.{After-comment_turn}

comment : (c : After-comment_turn)
    → Turns (comment_turn (properties_at c.args.table.now)) c.args.source.now (along_by 1 1 (reach_of c.args.lexer))
    c.loop-i.reach c.loop-i.i c.comment_turn.result
comment c =
    record {
      safe = comment_safe _ _ c.requires.1;
      going = c.loop-i.invariant;
      within = c.loop-i-test.true;
      is = c.comment_turn.ensures;
    }

pub along_ascii-reach-requires : goal.along_ascii-reach-requires
along_ascii-reach-requires c =
    record { byte_le_source_most = rw c.reach.ensures (omega (arith, c.requires.0)); column_le_column_most = rw c.reach.ensures (omega (arith, c.requires.0)) }

pub loop-i-init : goal.loop-i-init
loop-i-init c = begun (rw (c.along_ascii-reach.ensures, c.reach.ensures) refl) c.requires.0

pub comment_turn-requires : goal.comment_turn-requires
comment_turn-requires c =
    record { well_formed = (going_well c.loop-i.invariant, c.loop-i-test.true); fit_table = c.requires.1 }

pub along-reach-requires : goal.along-reach-requires
along-reach-requires c =
    record { byte_le_source_most = (passes_fit (comment (goal.at.along-reach-requires c).After-comment_turn) c.in-Pass.is).0; column_le_column_most = (passes_fit (comment (goal.at.along-reach-requires c).After-comment_turn) c.in-Pass.is).1 }

pub next_line-reach-requires : goal.next_line-reach-requires
next_line-reach-requires c =
    record { byte_le_source_most = (lines_fit (comment (goal.at.next_line-reach-requires c).After-comment_turn) c.in-Line.is).0; line_le_source_most = (lines_fit (comment (goal.at.next_line-reach-requires c).After-comment_turn) c.in-Line.is).1 }

pub along-requires : goal.along-requires
along-requires c =
    record { byte_le_source_most = (closes_fit (comment (goal.at.along-requires c).After-comment_turn) c.in-Close.is).0; column_le_column_most = (closes_fit (comment (goal.at.along-requires c).After-comment_turn) c.in-Close.is).1 }

pub returns-in-Close : goal.returns-in-Close
unfolding consume_comment_multi
returns-in-Close c =
    let e = c.token_to.ensures ∙ ap (comment_token c.args.lexer) (closed (comment (goal.at.returns-in-Close c).After-comment_turn) c.in-Close.is c.along.ensures) in
    search (rules, e)

pub returns-in-Stuck : goal.returns-in-Stuck
unfolding consume_comment_multi
returns-in-Stuck c =
    let e = c.stuck.ensures ∙ ap (comment_token c.args.lexer) (stopped (comment (goal.at.returns-in-Stuck c).After-comment_turn) c.in-Stuck.is) in
    search (rules, e)

pub loop-i-smaller-in-Pass : goal.loop-i-smaller-in-Pass
loop-i-smaller-in-Pass c = passes_fall (comment (goal.at.loop-i-smaller-in-Pass c).After-comment_turn) c.in-Pass.is c.along-reach.ensures

pub loop-i-preserved-in-Pass : goal.loop-i-preserved-in-Pass
loop-i-preserved-in-Pass c = passed (comment (goal.at.loop-i-preserved-in-Pass c).After-comment_turn) c.in-Pass.is c.along-reach.ensures

pub loop-i-smaller : goal.loop-i-smaller
loop-i-smaller c = lines_fall (comment (goal.at.loop-i-smaller c).After-comment_turn) c.in-Line.is c.next_line-reach.ensures

pub loop-i-preserved : goal.loop-i-preserved
loop-i-preserved c = lined (comment (goal.at.loop-i-preserved c).After-comment_turn) c.in-Line.is c.next_line-reach.ensures

pub returns : goal.returns
unfolding consume_comment_multi
returns c =
    let e = c.token_to-2.ensures ∙ ap (comment_token c.args.lexer) (sym (ends c.loop-i.invariant c.loop-i-test.false)) in
    search (rules, e)
