-- Laws of the turns, at a place of the bytes.
--     escape_at, literal_at, raw_at     the turn by tests of the bytes there, in the order of the code
-- Assumes nothing.
use Rattle.std.specs.Prelude.{ℕ, ◌+◌, ◌%◌, ◌<◌, ◌≡◌, Bool, true, List, eqb, length, drop}
use Rattle.std.proofs.Common.{arith, ◌∙◌, eqb-true}
use Rattle.std.proofs.Math.Path.{ap}
use Rattle.base.specs.Pick.{pick}
use Rattle.base.specs.PickLaws.{by_eq}
use Rattle.utf8.specs.Encode.{WellFormed}
use Rattle.utf8.specs.Chars.{chars}
use Rattle.text.specs.Bytes.{byte_at}
use Rattle.text.specs.Tests.{backslash, letter_u, curly_open}
use Rattle.text.specs.CountLaws.{skip_one}
use Rattle.text.specs.Follow.{next_is, turn_at}
use Rattle.text.specs.FollowLaws.{here, next_is_lem, turn_char}
use Rattle.text.specs.declared.Turn.{Turn}
use Rattle.text.specs.declared.Turn.TheVariants.{Pass, Close}
use Rattle.state.specs.Modes.{quote_of, hash_count_of}
use Rattle.newlines.specs.PlainTurn.{plain_turn}
use Rattle.newlines.specs.TurnLaws.{when, is_byte, behind}
use Rattle.strings.specs.ConsumeStringLiteral.{escape_turn, literal_turn}
use Rattle.strings.specs.ConsumeRawString.{hashes, quote_turn, raw_turn}

pub quote_ascii : (delimiter : ℕ) → quote_of delimiter < 128
quote_ascii delimiter = by_eq (λ (q : ℕ). q < 128) (delimiter % 2) 0 {a = 34} {b = 39} (λ _. omega arith) (λ _. omega arith)

-- ---- the turns by their bytes

module _ (s : List ℕ) (i : ℕ) (w : WellFormed (drop i s)) (h : i < length s) where
  module _ (look : ℕ → ℕ) where
    -- lexer.rs `consume_string_literal`
    pub literal_at : (quote : ℕ) → quote < 128
        → turn_at (literal_turn look quote) (chars (drop i s))
        ≡ pick (eqb (byte_at s i) quote) (Close 0 0)
        (pick (eqb (byte_at s i) curly_open) (Close 0 0)
        (pick (eqb (byte_at s i) backslash) (escape_turn quote (chars (drop (i + 1) s))) (turn_at (plain_turn look) (chars (drop i s)))))
    unfolding literal_turn
    literal_at quote q =
        let c = here s i w h in
        let plain = turn_char (plain_turn look) s i c.code c.len c.at in
        turn_char (literal_turn look quote) s i c.code c.len c.at
        ∙ rw (← plain, ← is_byte s i w h quote q, ← is_byte s i w h curly_open (omega arith), ← is_byte s i w h backslash (omega arith))
        (ap (λ (t : Turn). pick (eqb c.code quote) (Close 0 0) (pick (eqb c.code curly_open) (Close 0 0) t))
        (when (eqb c.code backslash) _ (λ e. ap (λ (j : ℕ). escape_turn quote (chars (drop j s))) (behind s i w h backslash (omega arith) e))))

    -- lexer.rs `consume_raw_string_contents`
    pub raw_at : (delimiter : ℕ)
        → turn_at (raw_turn look delimiter) (chars (drop i s))
        ≡ pick (eqb (byte_at s i) (quote_of delimiter)) (quote_turn (hash_count_of delimiter) (hashes (hash_count_of delimiter) (chars (drop (i + 1) s))))
        (turn_at (plain_turn look) (chars (drop i s)))
    unfolding raw_turn
    raw_at delimiter =
        let c = here s i w h in
        let plain = turn_char (plain_turn look) s i c.code c.len c.at in
        let q = quote_ascii delimiter in
        turn_char (raw_turn look delimiter) s i c.code c.len c.at
        ∙ rw (← plain, ← is_byte s i w h (quote_of delimiter) q)
        (when (eqb c.code (quote_of delimiter)) _
        (λ e. ap (λ (j : ℕ). quote_turn (hash_count_of delimiter) (hashes (hash_count_of delimiter) (chars (drop j s)))) (behind s i w h (quote_of delimiter) q e)))

-- a backslash at i
pub escape_at : (s : List ℕ) (i quote : ℕ) → WellFormed (drop (i + 1) s) → quote < 128
    → escape_turn quote (chars (drop (i + 1) s))
    ≡ pick (eqb (byte_at s (i + 1)) letter_u) (pick (eqb (byte_at s (i + 2)) curly_open) (Pass 3 3) (Pass 2 2))
    (pick (eqb (byte_at s (i + 1)) curly_open) (Pass 2 2)
    (pick (eqb (byte_at s (i + 1)) backslash) (Pass 2 2) (pick (eqb (byte_at s (i + 1)) quote) (Pass 2 2) (Pass 1 1))))
unfolding escape_turn
escape_at s i quote w q =
    let rest = chars (drop (i + 1) s) in
    let is : (d : ℕ) → d < 128 → next_is d rest ≡ eqb (byte_at s (i + 1)) d = λ d k. next_is_lem s (i + 1) d w k in
    let second : eqb (byte_at s (i + 1)) letter_u ≡ true → next_is curly_open (drop 1 rest) ≡ eqb (byte_at s (i + 2)) curly_open =
    λ e. let k = skip_one s (i + 1) letter_u w (eqb-true _ _ e) (omega arith) in
    let j : i + 1 + 1 ≡ i + 2 = omega arith in
    ap (next_is curly_open) k.rest
    ∙ next_is_lem s (i + 1 + 1) curly_open k.well (omega arith)
    ∙ ap (λ (n : ℕ). eqb (byte_at s n) curly_open) j
    in
    rw (is letter_u (omega arith), is curly_open (omega arith), is backslash (omega arith), is quote q)
    (when (eqb (byte_at s (i + 1)) letter_u) _ (λ e. ap (λ (t : Bool). pick t (Pass 3 3) (Pass 2 2)) (second e)))
