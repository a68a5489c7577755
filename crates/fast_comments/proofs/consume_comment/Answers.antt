-- `fast_comments::consume_comment` meets its contract: behind the "#" it takes the test of `comment_from`; what stays in a comment of one line is
-- passed at once, and the run from there on is the run from the start. Assumes nothing.
use native.Mathlib.Omega.{arith}
use mathlib.Core.Path.{◌≡◌, sym, ap, subst, ◌∙◌}
use Rattle.base.specs.CasesLaws.{pick_yes, pick_no, told_yes, told_no}
use Rattle.position.specs.Place.{along_by}
use Rattle.position.specs.declared.Reach.{Reach}
use Rattle.property.specs.Table.{properties_at}
use Rattle.token.specs.Kind.{comment_single}
use Rattle.text.specs.Tests.{no_line_end}
use Rattle.text.specs.CountLaws.{no_line_end_once}
use Rattle.text.specs.Stands.{Stands}
use Rattle.text.specs.FollowLaws.{one_ascii}
use Rattle.state.specs.Lexer.{reach_of, token_to}
use Rattle.comments.specs.CommentLaws.{comment_from}
use Rattle.newlines.specs.StandsLaws.{passed_stands}
use Rattle.newlines.proofs.Loops.{stands_along}
use Rattle.skip.specs.PastLaws.{Ran, past_ran}
use Rattle.fast_comments.specs.StaysLaws.{line_stays}
use Rattle.fast_comments.proofs.consume_comment.Goals as goal
use Rattle.fast_comments.proofs.consume_comment.Goals.{After-along_ascii-start, After-byte_at, After-pass-near, Start}

-- behind the "#"
behind : (c : Start) → Stands c.args.source.now (along_by 1 1 (reach_of c.args.lexer))
behind c =
    let p = c.requires in
    passed_stands _ _ p.stands.0 1 (one_ascii _ _ 35 p.stands.0.well p.lexer_value (omega arith)) 1 (omega arith)

-- what `start` is
begins : (c : After-along_ascii-start) → c.along_ascii-start.result ≡ along_by 1 1 (reach_of c.args.lexer)
begins c = c.along_ascii-start.ensures ∙ ap (along_by 1 1) c.reach.ensures

pub along_ascii-start-requires : goal.along_ascii-start-requires
along_ascii-start-requires c =
    record { byte_le_source_most = (stands_along c.reach.ensures c.requires.stands.0 1 (omega arith)).0; column_le_column_most = (stands_along c.reach.ensures c.requires.stands.0 1 (omega arith)).1 }

pub consume_comment_multi-requires : goal.consume_comment_multi-requires
consume_comment_multi-requires c =
    (behind (goal.at.consume_comment_multi-requires c).Start, c.requires.stands.1)

pub returns-then-byte_at-eq-MINUS : goal.returns-then-byte_at-eq-MINUS
returns-then-byte_at-eq-MINUS c =
    sym
    (comment_from _ _ c.requires.stands.0.well _ _ (begins (goal.at.returns-then-byte_at-eq-MINUS c).After-along_ascii-start) c.requires.lexer_value
    ∙ pick_yes _ _ _ _ (told_yes _ _ _ c.byte_at.ensures c.if-byte_at-eq-MINUS.true) (sym c.consume_comment_multi.ensures))

-- behind the "#", where no "-" stands
stands : (c : After-byte_at) → Stands c.args.source.now c.along_ascii-start.result
stands c = subst (Stands _) (sym (begins (goal.at.After-byte_at c).After-along_ascii-start)) (behind (goal.at.After-byte_at c).Start)

-- past what stays
ran : (c : After-pass-near) → Ran (properties_at c.args.table.now) no_line_end c.args.source.now c.along_ascii-start.result c.pass-near.result
ran c = past_ran _ _ c.requires.stands.1 no_line_end_once line_stays (stands (goal.at.After-pass-near c).After-byte_at) c.pass-near.ensures

pub pass-near-requires : goal.pass-near-requires
pass-near-requires c = stands (goal.at.pass-near-requires c).After-byte_at

pub run_utf8-requires : goal.run_utf8-requires
run_utf8-requires c = ((ran c).stands, c.requires.stands.1)

pub returns : goal.returns
returns c =
    let e = c.token_to.ensures ∙ ap (λ (r : Reach). token_to comment_single r c.args.lexer) (c.run_utf8.ensures ∙ (ran (goal.at.returns c).After-pass-near).same) in
    sym
    (comment_from _ _ c.requires.stands.0.well _ _ (begins (goal.at.returns c).After-along_ascii-start) c.requires.lexer_value
    ∙ pick_no _ _ _ _ (told_no _ _ _ c.byte_at.ensures c.if-byte_at-eq-MINUS.false) (sym e))
