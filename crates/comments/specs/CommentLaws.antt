-- Laws of the turn in a comment, at a place of the bytes.
--     comment_at, comment_from     the turn, and the start of `consume_comment`, by tests of the bytes there, in the order of the code
--     comment_safe                 what `FollowLaws` asks of a loop's turn: it stays within the source
-- Assumes nothing.
use Rattle.std.specs.Prelude.{ℕ, ◌+◌, ◌<◌, ◌≡◌, refl, Bool, true, ◌&&◌, List, eqb, length, drop}
use Rattle.std.proofs.Common.{arith, sym, subst, ◌∙◌, eqb-true}
use Rattle.std.proofs.Math.Path.{ap}
use Rattle.base.specs.Pick.{pick}
use Rattle.base.specs.PickLaws.{by_test}
use Rattle.base.specs.Range.{inside}
use Rattle.position.specs.Place.{along_by}
use Rattle.position.specs.declared.Reach.{Reach}
use Rattle.utf8.specs.Encode.{WellFormed}
use Rattle.utf8.specs.EncodeLaws.{encode1}
use Rattle.utf8.specs.Chars.{chars}
use Rattle.property.specs.Parts.{width_of}
use Rattle.property.specs.Table.{properties_at}
use Rattle.fitness.specs.Fit.{FitTable}
use Rattle.fitness.specs.Ascii.{is_printable}
use Rattle.fitness.specs.SmallLaws.{ascii_width}
use Rattle.token.specs.Kind.{comment_single}
use Rattle.text.specs.Bytes.{byte_at}
use Rattle.text.specs.Tests.{hash, minus, no_line_end}
use Rattle.text.specs.Count.{len_utf8, run_test}
use Rattle.text.specs.CountLaws.{skip_one}
use Rattle.text.specs.Follow.{next_is, turn_at}
use Rattle.text.specs.Stands.{chars_from, Within, Safe}
use Rattle.text.specs.FollowLaws.{here, next_is_lem, turn_char, lands}
use Rattle.text.specs.declared.Turn.{Turn}
use Rattle.text.specs.declared.Turn.TheVariants.{Pass, Close}
use Rattle.state.specs.Lexer.{reach_of, token_to}
use Rattle.state.specs.declared.Lexer.{Lexer}
use Rattle.newlines.specs.PlainTurn.{plain_turn}
use Rattle.newlines.specs.TurnLaws.{when, both, is_pair, is_pair_lem}
use Rattle.newlines.specs.SafeLaws.{plain_safe, pair}
use Rattle.comments.specs.ConsumeComment.{comment_turn, consume_comment_multi, consume_comment}

module _ (s : List ℕ) (i : ℕ) (w : WellFormed (drop i s)) (h : i < length s) where
  module _ (table : List ℕ) (fit : FitTable table) where
    -- two characters, of which the first is ASCII and no control
    two : (f : ℕ → ℕ → Turn) (c d : ℕ) → eqb c d ≡ true → d < 128 → is_printable d ≡ true
        → f (len_utf8 c + 1) (width_of (properties_at table c) + 1) ≡ f 2 2
    two f c d e k p =
        let q = eqb-true c d e in
        let n : len_utf8 c ≡ 1 = ap len_utf8 q ∙ ap length (encode1 d k) in
        let m : width_of (properties_at table c) ≡ 1 =
        ap (λ (x : ℕ). width_of (properties_at table x)) q ∙ ascii_width table fit d k ∙ ap (λ (t : Bool). pick t 1 0) p in
        rw (n, m)

    -- lexer.rs `consume_comment`
    pub comment_at : turn_at (comment_turn (properties_at table)) (chars (drop i s))
        ≡ pick (is_pair s i hash minus) (Pass 2 2)
        (pick (is_pair s i minus hash) (Close 2 2) (turn_at (plain_turn (properties_at table)) (chars (drop i s))))
    unfolding comment_turn inside
    comment_at =
        let c = here s i w h in
        let rest = chars (drop (i + c.len) s) in
        let plain = turn_char (plain_turn (properties_at table)) s i c.code c.len c.at in
        turn_char (comment_turn (properties_at table)) s i c.code c.len c.at
        ∙ rw (← plain, ← is_pair_lem s i w h hash minus (omega arith) (omega arith), ← is_pair_lem s i w h minus hash (omega arith) (omega arith))
        (when (eqb c.code hash && next_is minus rest) _ (λ e. two Pass c.code hash (both _ _ e).0 (omega arith) refl)
        ∙ ap (λ (t : Turn). pick (eqb c.code hash && next_is minus rest) (Pass 2 2) t)
        (when (eqb c.code minus && next_is hash rest) _ (λ e. two Close c.code minus (both _ _ e).0 (omega arith) refl)))

-- lexer.rs `consume_comment`, behind its "#", where reading has come to r
module _ (s : List ℕ) (l : Lexer) (w : WellFormed (drop (reach_of l).byte.0 s)) (r : Reach) where
  pub comment_from : (look : ℕ → ℕ) → r ≡ along_by 1 1 (reach_of l) → byte_at s (reach_of l).byte.0 ≡ hash
      → consume_comment look (chars_from s (reach_of l)) l
      ≡ pick (eqb (byte_at s r.byte.0) minus) (consume_comment_multi look (chars_from s (along_by 1 1 (reach_of l))) l)
      (token_to comment_single (run_test look no_line_end r (chars_from s r)) l)
  unfolding consume_comment
  comment_from look e f =
      let at = (reach_of l).byte.0 in
      let k = skip_one s at hash w f (omega arith) in
      rw (e, k.rest, next_is_lem s (at + 1) minus k.well (omega arith))

module _ (s : List ℕ) (i : ℕ) (h : i < length s) (w : WellFormed (drop i s)) where
  comment_within : (table : List ℕ) → FitTable table → Within s i (turn_at (comment_turn (properties_at table)) (chars (drop i s)))
  comment_within table fit =
      subst (Within s i) (sym (comment_at s i w h table fit))
      (by_test (Within s i) (is_pair s i hash minus) (λ e. (pair s i h w hash minus (omega arith) (omega arith) e, omega arith))
      (λ _. by_test (Within s i) (is_pair s i minus hash) (λ e. (lands (pair s i h w minus hash (omega arith) (omega arith) e), omega arith))
      (λ _. plain_safe (properties_at table) s i h w)))

pub comment_safe : (table s : List ℕ) → FitTable table → Safe (comment_turn (properties_at table)) s
comment_safe table s fit i h w = comment_within s i h w table fit
