-- Every turn stays within the source: what it passes are whole characters of it, with no more columns than their bytes allow.
--     literal_safe, raw_safe     what `FollowLaws` asks of a loop's turn
-- Assumes nothing.
use Rattle.std.specs.Prelude.{ℕ, ◌+◌, ◌<◌, ◌≡◌, List, length, drop}
use Rattle.std.proofs.Common.{arith, sym, subst}
use Rattle.base.specs.PickLaws.{by_eq}
use Rattle.utf8.specs.Encode.{WellFormed}
use Rattle.utf8.specs.Chars.{chars}
use Rattle.text.specs.Bytes.{byte_at}
use Rattle.text.specs.Tests.{backslash, letter_u, curly_open}
use Rattle.text.specs.Follow.{turn_at}
use Rattle.text.specs.Stands.{Within, Safe}
use Rattle.text.specs.FollowLaws.{one_more_lem, one_ascii, no_char_lem}
use Rattle.text.specs.declared.Turn.TheVariants.{Pass, Close}
use Rattle.state.specs.Modes.{quote_of, hash_count_of}
use Rattle.strings.specs.ConsumeStringLiteral.{escape_turn, literal_turn}
use Rattle.strings.specs.ConsumeRawString.{hashes, quote_turn, raw_turn}
use Rattle.newlines.specs.SafeLaws.{plain_safe, two}
use Rattle.strings.specs.TurnLaws.{quote_ascii, escape_at, literal_at, raw_at}
use Rattle.strings.specs.HashLaws.{counted, pass_hashes}

module _ (s : List ℕ) (i : ℕ) (h : i < length s) (w : WellFormed (drop i s)) where
  escape_within : (quote : ℕ) → quote < 128 → byte_at s i ≡ backslash → Within s i (escape_turn quote (chars (drop (i + 1) s)))
  escape_within quote q b =
      let p = one_ascii s i backslash w b (omega arith) in
      let skipped : (d : ℕ) → d < 128 → byte_at s (i + 1) ≡ d → Within s i (Pass 2 2) = λ d k e. (two s i h w backslash d b (omega arith) e k, omega arith) in
      subst (Within s i) (sym (escape_at s i quote p.well q))
      (by_eq (Within s i) (byte_at s (i + 1)) letter_u
      (λ e. by_eq (Within s i) (byte_at s (i + 2)) curly_open
      (λ f. (one_more_lem s i 2 curly_open (skipped letter_u (omega arith) e).0 f (omega arith), omega arith)) (λ _. skipped letter_u (omega arith) e))
      (λ _. by_eq (Within s i) (byte_at s (i + 1)) curly_open (skipped curly_open (omega arith))
      (λ _. by_eq (Within s i) (byte_at s (i + 1)) backslash (skipped backslash (omega arith))
      (λ _. by_eq (Within s i) (byte_at s (i + 1)) quote (skipped quote q) (λ _. (p, omega arith))))))

  -- the end before the character here
  before : Within s i (Close 0 0)
  before = (no_char_lem s i w (omega arith), omega arith)

  literal_within : (look : ℕ → ℕ) (quote : ℕ) → quote < 128 → Within s i (turn_at (literal_turn look quote) (chars (drop i s)))
  literal_within look quote q =
      subst (Within s i) (sym (literal_at s i w h look quote q))
      (by_eq (Within s i) (byte_at s i) quote (λ _. before)
      (λ _. by_eq (Within s i) (byte_at s i) curly_open (λ _. before)
      (λ _. by_eq (Within s i) (byte_at s i) backslash (escape_within quote q) (λ _. plain_safe look s i h w))))

  quote_within : (delimiter : ℕ) → byte_at s i ≡ quote_of delimiter
      → Within s i (quote_turn (hash_count_of delimiter) (hashes (hash_count_of delimiter) (chars (drop (i + 1) s))))
  unfolding quote_turn
  quote_within delimiter e =
      let p = one_ascii s i (quote_of delimiter) w e (quote_ascii delimiter) in
      let most = hash_count_of delimiter in
      by_eq (Within s i) (hashes most (chars (drop (i + 1) s))) most (λ _. before)
      (λ _. (pass_hashes s i 1 _ p (counted s most (i + 1) p.well p.fits), omega arith))

  raw_within : (look : ℕ → ℕ) (delimiter : ℕ) → Within s i (turn_at (raw_turn look delimiter) (chars (drop i s)))
  raw_within look delimiter =
      subst (Within s i) (sym (raw_at s i w h look delimiter))
      (by_eq (Within s i) (byte_at s i) (quote_of delimiter) (quote_within delimiter) (λ _. plain_safe look s i h w))

pub literal_safe : (look : ℕ → ℕ) (quote : ℕ) (s : List ℕ) → quote < 128 → Safe (literal_turn look quote) s
literal_safe look quote s q i h w = literal_within s i h w look quote q

pub raw_safe : (look : ℕ → ℕ) (delimiter : ℕ) (s : List ℕ) → Safe (raw_turn look delimiter) s
raw_safe look delimiter s i h w = raw_within s i h w look delimiter
