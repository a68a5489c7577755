-- `fast_comments::consume_comment_multi` meets its contract. The loop's invariant is `Going`: what is found from here is what was to be found
-- from the start; what stays is passed at once, and each arm cites its law of `Loops`. Assumes nothing.
use native.Mathlib.Omega.{arith}
use mathlib.Core.Path.{sym, ap, ◌∙◌}
use Rattle.position.specs.Place.{along_by}
use Rattle.property.specs.Table.{properties_at}
use Rattle.text.specs.FollowLaws.{ends}
use Rattle.state.specs.Lexer.{reach_of}
use Rattle.newlines.proofs.Loops.{begun, going_well, Turns, passes_fit, passed, passes_fall, lines_fit, lined, lines_fall, closes_fit, closed, stopped}
use Rattle.comments.specs.ConsumeComment.{comment_turn, comment_token, consume_comment_multi}
use Rattle.comments.specs.CommentLaws.{comment_safe}
use Rattle.skip.specs.PastLaws.{Along, past_going}
use Rattle.fast_comments.specs.StaysLaws.{comment_stays}
use Rattle.fast_comments.proofs.consume_comment_multi.Goals as goal
use Rattle.fast_comments.proofs.consume_comment_multi.Goals.{After-comment_turn, After-pass-reach}

-- past what stays
going : (c : After-pass-reach)
    → Along (comment_turn (properties_at c.args.table.now)) c.args.source.now (along_by 1 1 (reach_of c.args.lexer))
    c.pass-reach.result
going c =
    let fit = c.requires.1 in
    past_going (comment_safe _ _ fit) _ (comment_stays _ _ fit) c.loop-lexer.invariant c.pass-reach.ensures

-- where a turn was taken
comment : (c : After-comment_turn)
    → Turns (comment_turn (properties_at c.args.table.now)) c.args.source.now
    (along_by 1 1 (reach_of c.args.lexer)) c.pass-reach.result c.pass-reach.result.byte.0
    c.comment_turn.result
comment c =
    record {
      safe = comment_safe _ _ c.requires.1;
      going = going (goal.at.After-comment_turn c).After-pass-reach;
      within = c.if-source-i.false;
      is = c.comment_turn.ensures;
    }

pub along_ascii-reach-requires : goal.along_ascii-reach-requires
along_ascii-reach-requires c =
    record { byte_le_source_most = rw c.reach.ensures (omega (arith, c.requires.0)); column_le_column_most = rw c.reach.ensures (omega (arith, c.requires.0)) }

pub loop-lexer-init : goal.loop-lexer-init
loop-lexer-init c = begun (c.along_ascii-reach.ensures ∙ ap (along_by 1 1) c.reach.ensures) c.requires.0

pub pass-reach-requires : goal.pass-reach-requires
pass-reach-requires c = c.loop-lexer.invariant.stands

pub returns-then-source-i : goal.returns-then-source-i
unfolding consume_comment_multi
returns-then-source-i c = c.token_to.ensures ∙ ap (comment_token _) (sym (ends (going (goal.at.returns-then-source-i c).After-pass-reach) c.if-source-i.true))

pub comment_turn-requires : goal.comment_turn-requires
comment_turn-requires c = record { well_formed = (going_well (going (goal.at.comment_turn-requires c).After-pass-reach), c.if-source-i.false); fit_table = c.requires.1 }

pub along-reach-requires : goal.along-reach-requires
along-reach-requires c =
    record { byte_le_source_most = (passes_fit (comment (goal.at.along-reach-requires c).After-comment_turn) c.in-Pass.is).0; column_le_column_most = (passes_fit (comment (goal.at.along-reach-requires c).After-comment_turn) c.in-Pass.is).1 }

pub loop-lexer-smaller-in-Pass : goal.loop-lexer-smaller-in-Pass
loop-lexer-smaller-in-Pass c =
    omega (arith, passes_fall (comment (goal.at.loop-lexer-smaller-in-Pass c).After-comment_turn) c.in-Pass.is c.along-reach.ensures, c.pass-reach.ensures.passed.on)

pub loop-lexer-preserved-in-Pass : goal.loop-lexer-preserved-in-Pass
loop-lexer-preserved-in-Pass c = passed (comment (goal.at.loop-lexer-preserved-in-Pass c).After-comment_turn) c.in-Pass.is c.along-reach.ensures

pub next_line-reach-requires : goal.next_line-reach-requires
next_line-reach-requires c =
    record { byte_le_source_most = (lines_fit (comment (goal.at.next_line-reach-requires c).After-comment_turn) c.in-Line.is).0; line_le_source_most = (lines_fit (comment (goal.at.next_line-reach-requires c).After-comment_turn) c.in-Line.is).1 }

pub loop-lexer-smaller : goal.loop-lexer-smaller
loop-lexer-smaller c =
    omega (arith, lines_fall (comment (goal.at.loop-lexer-smaller c).After-comment_turn) c.in-Line.is c.next_line-reach.ensures, c.pass-reach.ensures.passed.on)

pub loop-lexer-preserved : goal.loop-lexer-preserved
loop-lexer-preserved c = lined (comment (goal.at.loop-lexer-preserved c).After-comment_turn) c.in-Line.is c.next_line-reach.ensures

pub along-requires : goal.along-requires
along-requires c =
    record { byte_le_source_most = (closes_fit (comment (goal.at.along-requires c).After-comment_turn) c.in-Close.is).0; column_le_column_most = (closes_fit (comment (goal.at.along-requires c).After-comment_turn) c.in-Close.is).1 }

pub returns-in-Close : goal.returns-in-Close
unfolding consume_comment_multi
returns-in-Close c =
    c.token_to-in-Close.ensures
    ∙ ap (comment_token _) (closed (comment (goal.at.returns-in-Close c).After-comment_turn) c.in-Close.is c.along.ensures)

pub returns-in-Stuck : goal.returns-in-Stuck
unfolding consume_comment_multi
returns-in-Stuck c = c.stuck.ensures ∙ ap (comment_token _) (stopped (comment (goal.at.returns-in-Stuck c).After-comment_turn) c.in-Stuck.is)
