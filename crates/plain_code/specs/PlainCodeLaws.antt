-- Numbers and symbols of one byte at the lexer's place.
--     number_whole     a number whose first digits are followed by no dot and no small letter ends there
--     finds_number     what is found is the number
--     finds_byte       what is found is the symbol
-- Assumes nothing.
use Rattle.std.specs.Prelude.{ℕ, ◌+◌, ◌-◌, ◌<◌, ◌≡◌, true, false, ◌&&◌, List, ◌∷◌, eqb, length, get_or, drop, Some}
use Rattle.std.proofs.Common.{arith, sym, ap, ◌∙◌, ne_eqb, lt-ltb}
use Rattle.std.proofs.Math.Path.{refl}
use Rattle.std.proofs.lemmas.Bool.{false≢true}
use Rattle.base.specs.PickLaws.{by_test}
use Rattle.base.specs.Range.{inside}
use Rattle.utf8.specs.Chars.{chars}
use Rattle.token.specs.Kind.{number}
use Rattle.text.specs.Bytes.{byte_at}
use Rattle.text.specs.FollowLaws.{byte_within}
use Rattle.text.specs.Stands.{Stands, chars_from}
use Rattle.state.specs.Lexer.{reach_of}
use Rattle.state.specs.declared.Change.TheVariants.{Keep}
use Rattle.state.specs.declared.Lexer.{Lexer}
use Rattle.symbols.specs.Symbols.{symbol_of, symbol}
use Rattle.numbers.specs.Places.{PlaceIn}
use Rattle.numbers.specs.ConsumeNumber.{tail_bytes, zero_bytes, number_bytes, consume_number}
use Rattle.numbers.specs.NumberLaws.{exponent_at, tail_at, zero_at, number_at, whole_end, whole_place}
use Rattle.symbol_tokens.specs.ConsumeSymbol.{symbol_change, consume_symbol}
use Rattle.signs.specs.SignsLaws.{sign_taken}
use Rattle.plain.specs.Plain.{FindsPlain}
use Rattle.plain.specs.PlainLaws.{plain_token}
use Rattle.plain.specs.declared.Plain.{Plain}

-- ---- numbers

module _ {s : List ℕ} {i : ℕ} (p : PlaceIn s i) (no_dot : eqb (byte_at s i) 46 ≡ false) (no_letter : inside (byte_at s i) 97 122 ≡ false) where
  not_letter : (d : ℕ) → inside d 97 122 ≡ true → eqb (byte_at s i) d ≡ false
  not_letter d e = ne_eqb (byte_at s i) d (λ q. false≢true (sym no_letter ∙ ap (λ (x : ℕ). inside x 97 122) q ∙ e))

  no_tail : i + tail_bytes (chars (drop i s)) ≡ i
  unfolding inside
  no_tail = tail_at p ∙ rw no_dot (exponent_at p ∙ rw (not_letter 101 refl))

  no_zero : i + zero_bytes (chars (drop i s)) ≡ i
  unfolding inside
  no_zero = zero_at p ∙ rw (not_letter 98 refl, not_letter 111 refl, not_letter 120 refl) no_tail

module _ {s : List ℕ} {i : ℕ} (p : PlaceIn s i) (h : byte_at s i < 128) where
  pub number_whole : eqb (byte_at s (whole_end s i)) 46 ≡ false → inside (byte_at s (whole_end s i)) 97 122 ≡ false
      → i + number_bytes (chars (drop i s)) ≡ whole_end s i
  number_whole no_dot no_letter =
      let q = whole_place p h in
      number_at p h
      ∙ by_test (λ (x : ℕ). x ≡ whole_end s i) (eqb (byte_at s i) 48 && eqb (whole_end s i) (i + 1)) (λ _. no_zero q no_dot no_letter)
      (λ _. no_tail q no_dot no_letter)

pub finds_number : (s : List ℕ) (l : Lexer) {end : ℕ} → end ≡ (reach_of l).byte.0 + number_bytes (chars_from s (reach_of l)) → {p : Plain}
    → p ≡ record { kind = number; len = end - (reach_of l).byte.0 } → FindsPlain Keep (consume_number (chars_from s (reach_of l)) l) l p
finds_number s l {end} e q =
    let n : number_bytes (chars_from s (reach_of l)) ≡ end - (reach_of l).byte.0 = omega (arith, e) in
    plain_token number (end - (reach_of l).byte.0) q (rw n)

-- ---- symbols of one byte

pub finds_byte : (s : List ℕ) (l : Lexer) → Stands s (reach_of l) → (b kind : ℕ) → byte_at s (reach_of l).byte.0 ≡ b → b < 128
    → symbol_of (b ∷ drop ((reach_of l).byte.0 + 1) s) ≡ Some (symbol kind 1) → symbol_change l.mode kind ≡ Keep
    → {p : Plain} → p ≡ record { kind = kind; len = 1 } → FindsPlain Keep (consume_symbol (chars_from s (reach_of l)) l) l p
finds_byte s l o b kind e k is c q =
    let i = (reach_of l).byte.0 in
    let h = byte_within s i b e (omega arith) in
    let g : byte_at s i ≡ get_or s i 0 = rw (lt-ltb i (length s) h) in
    plain_token kind 1 q (sign_taken s l o h b kind 1 Keep (sym g ∙ e) is c)
