-- After a newline the lexer stands in the source, and not before where it stood. These speak of the definitions alone.
--     Steps                          what is shown of a token
--     passed_stands, line_stands     past whole characters; and past those that end a line
--     stays, newline_steps           of a token that stands still, and of `consume_newline`
-- Assumes nothing.
use Rattle.std.specs.Prelude.{ℕ, ◌+◌, ◌*◌, ◌≤◌, ◌≡◌, refl, List}
use Rattle.std.proofs.Common.{arith, sym, subst}
use Rattle.base.specs.PickLaws.{by_eq}
use Rattle.position.specs.Place.{along_by, line_by}
use Rattle.position.specs.declared.Reach.{Reach}
use Rattle.token.specs.Kind.{new_line}
use Rattle.text.specs.Bytes.{byte_at}
use Rattle.text.specs.Tests.{cr, lf}
use Rattle.text.specs.Stands.{Stands, Passes, chars_from}
use Rattle.text.specs.FollowLaws.{one_more_lem, one_ascii}
use Rattle.state.specs.Lexer.{reach_of, token_to, stuck_at}
use Rattle.state.specs.declared.Lexer.{Lexer}
use Rattle.state.specs.declared.Taken.{Taken}
use Rattle.newlines.specs.ConsumeNewline.{consume_newline}
use Rattle.newlines.specs.TurnLaws.{newline_at}

-- the lexer after the token stands in s, and no byte before where l stands
pub record Steps (s : List ℕ) (l : Lexer) (t : Taken) : Type 0 where
  pub stands : Stands s (reach_of t.lexer)
  pub on : (reach_of l).byte.0 ≤ (reach_of t.lexer).byte.0

-- ---- places further on

module _ (s : List ℕ) (r : Reach) (o : Stands s r) (b : ℕ) (p : Passes s r.byte.0 b) where
  pub passed_stands : (w : ℕ) → w ≤ 3 * b → Stands s (along_by b w r)
  passed_stands w h =
      record {
        small = o.small;
        inside = p.fits;
        well = p.well;
        lines = omega (arith, o.lines);
        columns = omega (arith, o.columns);
      }

  pub line_stands : Stands s (line_by b r)
  line_stands = record { small = o.small; inside = p.fits; well = p.well; lines = omega (arith, o.lines, p.some); columns = omega arith }

-- ---- the tokens

module _ (s : List ℕ) (l : Lexer) (o : Stands s (reach_of l)) where
  abbrev at : ℕ
  at = (reach_of l).byte.0

  pub stays : Steps s l (stuck_at l)
  stays = record { stands = o; on = omega arith }

  pub newline_steps : Steps s l (consume_newline (chars_from s (reach_of l)) l)
  newline_steps =
      let line : (b : ℕ) → Passes s at b → Steps s l (token_to new_line (line_by b (reach_of l)) l) =
      λ b p. record { stands = line_stands s (reach_of l) o b p; on = omega arith } in
      subst (Steps s l) (sym (newline_at s l o.well (reach_of l) refl))
      (by_eq (Steps s l) (byte_at s at) cr
      (λ e. by_eq (Steps s l) (byte_at s (at + 1)) lf
      (λ f. line 2 (one_more_lem s at 1 lf (one_ascii s at cr o.well e (omega arith)) f (omega arith))) (λ _. stays))
      (λ _. by_eq (Steps s l) (byte_at s at) lf (λ e. line 1 (one_ascii s at lf o.well e (omega arith))) (λ _. stays)))
