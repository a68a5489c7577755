-- Where the contents of a raw string end, their end delimiter stands.
--     raw_delimited      the loop over the contents closes before the delimiter
--     contents_end       the same of `consume_raw_string_contents`, whose change then replaces RawStart by RawEnd
-- Assumes nothing.
use Rattle.std.specs.Prelude.{ℕ, ◌+◌, ◌<◌, ◌≡◌, refl, List, length, drop}
use Rattle.std.proofs.Common.{arith, sym}
use Rattle.std.proofs.Math.Path.{subst}
use Rattle.base.specs.PickLaws.{by_eq}
use Rattle.position.specs.declared.Reach.{Reach}
use Rattle.utf8.specs.Encode.{WellFormed}
use Rattle.utf8.specs.Chars.{chars}
use Rattle.text.specs.Bytes.{byte_at}
use Rattle.text.specs.Tests.{cr, lf}
use Rattle.text.specs.Follow.{Followed, Closed, Open, Stopped, follow, turn_at}
use Rattle.text.specs.Stands.{Stands, chars_from}
use Rattle.text.specs.FollowLaws.{here, one_ascii, follow_by}
use Rattle.text.specs.declared.Turn.{Turn}
use Rattle.text.specs.declared.Turn.TheVariants.{Pass, Line, Close, Stuck}
use Rattle.state.specs.Modes.{raw_end, mode_code, quote_of, hash_count_of}
use Rattle.state.specs.Lexer.{reach_of}
use Rattle.state.specs.declared.Change.TheVariants.{Keep, Push, Pop, Replace}
use Rattle.state.specs.declared.Lexer.{Lexer}
use Rattle.state.specs.declared.Taken.{Taken}
use Rattle.newlines.specs.PlainTurn.{plain_turn}
use Rattle.strings.specs.ConsumeRawString.{hashes, quote_turn, raw_turn, raw_token, consume_raw_string_contents}
use Rattle.strings.specs.Delimited.{Hashes, Delimited}
use Rattle.strings.specs.TurnLaws.{quote_ascii, raw_at}
use Rattle.newlines.specs.TurnLaws.{plain_at}
use Rattle.strings.specs.HashLaws.{counted}
use Rattle.strings.specs.SafeLaws.{raw_safe}

-- ---- the contents of a raw string

module _ (look : ℕ → ℕ) (s : List ℕ) (delimiter : ℕ) where
  -- a turn at i that closes does so before the delimiter
  abbrev Shuts : ℕ → Turn → Type 0
  Shuts i (Pass b w) = Unit {0}
  Shuts i (Line b) = Unit {0}
  Shuts i (Close b w) = (b ≡ 0) × Delimited s delimiter i
  Shuts i Stuck = Unit {0}

  plain_shuts : (i : ℕ) → i < length s → WellFormed (drop i s) → Shuts i (turn_at (plain_turn look) (chars (drop i s)))
  plain_shuts i h w =
      let c = here s i w h in
      subst (Shuts i) (sym (plain_at look s i c.code c.len c.at c.well))
      (by_eq (Shuts i) c.code cr (λ _. by_eq (Shuts i) (byte_at s (i + 1)) lf (λ _. tt) (λ _. tt))
      (λ _. by_eq (Shuts i) c.code lf (λ _. tt) (λ _. tt)))

  raw_shuts : (i : ℕ) → i < length s → WellFormed (drop i s) → Shuts i (turn_at (raw_turn look delimiter) (chars (drop i s)))
  unfolding quote_turn
  raw_shuts i h w =
      let most = hash_count_of delimiter in
      subst (Shuts i) (sym (raw_at s i w h look delimiter))
      (by_eq (Shuts i) (byte_at s i) (quote_of delimiter)
      (λ e. let p = one_ascii s i (quote_of delimiter) w e (quote_ascii delimiter) in
      by_eq (Shuts i) (hashes most (chars (drop (i + 1) s))) most
      (λ n. (refl, record { quote = e; hashes = subst (Hashes s (i + 1)) n (counted s most (i + 1) p.well p.fits) })) (λ _. tt))
      (λ _. plain_shuts i h w))

  -- what the loop comes to, where it closes, stands before the delimiter
  abbrev pub Before : Followed → Type 0
  Before (Closed q) = Delimited s delimiter q.byte.0
  Before (Open q) = Unit {0}
  Before Stopped = Unit {0}

  pub raw_delimited : (start : Reach) → Stands s start → Before (follow (raw_turn look delimiter) start (chars_from s start))
  raw_delimited start o =
      follow_by (raw_turn look delimiter) s (raw_safe look delimiter s) start Before (λ r g. tt)
      (λ r b w g h e. let d = subst (Shuts r.byte.0) (sym e) (raw_shuts r.byte.0 h g.stands.well) in
      let q : r.byte.0 ≡ r.byte.0 + b = omega (arith, d.0) in
      subst (Delimited s delimiter) q d.1)
      tt o

  -- the modes are kept, or RawEnd replaces RawStart before the delimiter
  abbrev pub EndsBefore : Taken → Type 0
  EndsBefore t = elim t.change [ Keep ↦ Unit {0} | Push code ↦ ⊥ | Pop ↦ ⊥ | Replace code ↦ (code ≡ mode_code raw_end delimiter) × Delimited s delimiter (reach_of t.lexer).byte.0 ]

  pub contents_end : (l : Lexer) → Stands s (reach_of l) → EndsBefore (consume_raw_string_contents look delimiter (chars_from s (reach_of l)) l)
  unfolding consume_raw_string_contents
  contents_end l o = go (follow (raw_turn look delimiter) (reach_of l) (chars_from s (reach_of l))) (raw_delimited (reach_of l) o)
    where
      go : (f : Followed) → Before f → EndsBefore (raw_token delimiter l f)
      go (Closed q) d = (refl, d)
      go (Open q) d = tt
      go Stopped d = tt
