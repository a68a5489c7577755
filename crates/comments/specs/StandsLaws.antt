-- After a comment the lexer stands in the source, and not before where it stood. These speak of the definitions alone.
--     comment_steps
-- Assumes nothing.
use Rattle.std.specs.Prelude.{ℕ, ◌+◌, ◌≡◌, List}
use Rattle.std.proofs.Common.{arith, sym}
use Rattle.std.proofs.Math.Path.{refl, subst}
use Rattle.base.specs.PickLaws.{by_eq}
use Rattle.position.specs.Place.{along_by}
use Rattle.property.specs.Table.{properties_at}
use Rattle.fitness.specs.Fit.{FitTable}
use Rattle.text.specs.Bytes.{byte_at}
use Rattle.text.specs.Tests.{hash, minus, no_line_end, test_utf8_of}
use Rattle.text.specs.CountLaws.{run_stands}
use Rattle.text.specs.Follow.{Followed, Closed, Open, Stopped, follow}
use Rattle.text.specs.Stands.{Stands, chars_from}
use Rattle.text.specs.FollowLaws.{one_ascii, Landed, follow_lands}
use Rattle.state.specs.Lexer.{reach_of}
use Rattle.state.specs.declared.Lexer.{Lexer}
use Rattle.newlines.specs.StandsLaws.{Steps, passed_stands, stays}
use Rattle.comments.specs.ConsumeComment.{comment_turn, comment_token, consume_comment_multi, consume_comment}
use Rattle.comments.specs.CommentLaws.{comment_from, comment_safe}

module _ (s : List ℕ) (l : Lexer) (o : Stands s (reach_of l)) where
  abbrev at : ℕ
  at = (reach_of l).byte.0

  pub comment_steps : (table : List ℕ) → FitTable table → byte_at s at ≡ hash
      → Steps s l (consume_comment (properties_at table) (chars_from s (reach_of l)) l)
  unfolding consume_comment_multi
  comment_steps table fit e =
      let look = properties_at table in
      let start = along_by 1 1 (reach_of l) in
      let from : Stands s start = passed_stands s (reach_of l) o 1 (one_ascii s at hash o.well e (omega arith)) 1 (omega arith) in
      let run = run_stands look (test_utf8_of look no_line_end) s start from in
      subst (Steps s l) (sym (comment_from s l o.well start look refl e))
      (by_eq (Steps s l) (byte_at s (at + 1)) minus
      (λ _. go (follow (comment_turn look) start (chars_from s start)) (follow_lands (comment_turn look) s (comment_safe table s fit) start from))
      (λ _. record { stands = run.stands; on = omega (arith, run.on) }))
    where
      go : (f : Followed) → Landed s (along_by 1 1 (reach_of l)) f → Steps s l (comment_token l f)
      go (Closed q) d = record { stands = d.0; on = omega (arith, d.1) }
      go (Open q) d = record { stands = d.0; on = omega (arith, d.1) }
      go Stopped d = stays s l o
