-- After each token of this crate the lexer stands in the source, and not before where it stood. These speak of the definitions alone.
--     literal_steps, contents_steps, end_steps     of each public function
-- Assumes nothing.
use Rattle.std.specs.Prelude.{ℕ, ◌+◌, ◌<◌, List}
use Rattle.std.proofs.Common.{arith}
use Rattle.text.specs.Follow.{Followed, Closed, Open, Stopped, follow}
use Rattle.text.specs.Stands.{Stands, chars_from}
use Rattle.text.specs.FollowLaws.{one_ascii, Landed, follow_lands}
use Rattle.state.specs.Modes.{quote_of, hash_count_of}
use Rattle.state.specs.Lexer.{reach_of}
use Rattle.state.specs.declared.Lexer.{Lexer}
use Rattle.newlines.specs.StandsLaws.{Steps, passed_stands, stays}
use Rattle.strings.specs.ConsumeStringLiteral.{literal_turn, literal_token, consume_string_literal}
use Rattle.strings.specs.ConsumeRawString.{raw_turn, raw_token, consume_raw_string_contents, consume_raw_string_end}
use Rattle.strings.specs.Delimited.{Delimited}
use Rattle.strings.specs.TurnLaws.{quote_ascii}
use Rattle.strings.specs.HashLaws.{pass_hashes}
use Rattle.strings.specs.SafeLaws.{literal_safe, raw_safe}

module _ (s : List ℕ) (l : Lexer) (o : Stands s (reach_of l)) where
  abbrev at : ℕ
  at = (reach_of l).byte.0

  pub literal_steps : (look : ℕ → ℕ) (quote : ℕ) → quote < 128 → Steps s l (consume_string_literal look quote (chars_from s (reach_of l)) l)
  unfolding consume_string_literal
  literal_steps look quote q =
      go (follow (literal_turn look quote) (reach_of l) (chars_from s (reach_of l)))
      (follow_lands (literal_turn look quote) s (literal_safe look quote s q) (reach_of l) o)
    where
      go : (f : Followed) → Landed s (reach_of l) f → Steps s l (literal_token l f)
      go (Closed q) d = record { stands = d.0; on = d.1 }
      go (Open q) d = stays s l o
      go Stopped d = stays s l o

  pub contents_steps : (look : ℕ → ℕ) (delimiter : ℕ) → Steps s l (consume_raw_string_contents look delimiter (chars_from s (reach_of l)) l)
  unfolding consume_raw_string_contents
  contents_steps look delimiter =
      go (follow (raw_turn look delimiter) (reach_of l) (chars_from s (reach_of l)))
      (follow_lands (raw_turn look delimiter) s (raw_safe look delimiter s) (reach_of l) o)
    where
      go : (f : Followed) → Landed s (reach_of l) f → Steps s l (raw_token delimiter l f)
      go (Closed q) d = record { stands = d.0; on = d.1 }
      go (Open q) d = stays s l o
      go Stopped d = stays s l o

  pub end_steps : (delimiter : ℕ) → Delimited s delimiter at → Steps s l (consume_raw_string_end delimiter l)
  end_steps delimiter d =
      let p = one_ascii s at (quote_of delimiter) o.well d.quote (quote_ascii delimiter) in
      let n = 1 + hash_count_of delimiter in
      record {
        stands = passed_stands s (reach_of l) o n (pass_hashes s at 1 (hash_count_of delimiter) p d.hashes) n (omega arith);
        on = omega arith;
      }
