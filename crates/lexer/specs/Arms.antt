-- What the functions that are the arms of `get_next_token` ensure, at the lexer's place. These serve the code's proofs alone.
-- Assumes nothing.
use Rattle.std.specs.Prelude.{ℕ, ◌≤◌, ◌≡◌, false, List, eqb}
use Rattle.property.specs.Table.{properties_at}
use Rattle.text.specs.Bytes.{byte_at}
use Rattle.text.specs.Tests.{is_whitespace, is_line_end}
use Rattle.text.specs.Stands.{chars_from}
use Rattle.state.specs.Lexer.{reach_of}
use Rattle.state.specs.declared.Lexer.{Lexer}
use Rattle.state.specs.declared.Taken.{Taken}
use Rattle.numbers.specs.ConsumeNumber.{consume_number}
use Rattle.names.specs.ConsumeIdOrKeyword.{consume_id_or_keyword}
use Rattle.symbol_tokens.specs.ConsumeSymbol.{consume_symbol}
use Rattle.lexer.specs.GetNextToken.{next_char, in_literal, in_code}
use Rattle.lexer.specs.declared.Begins.{Begins}
use Rattle.lexer.specs.declared.Begins.TheVariants as begins

-- the arms of `get_next_token` at the lexer's place: r is what the arm makes of the characters that are left
abbrev pub InLiteralIs : List ℕ → List ℕ → ℕ → Lexer → Taken → Type 0
InLiteralIs s table quote l r =
    r ≡ in_literal (properties_at table) quote (next_char (chars_from s (reach_of l))) (chars_from s (reach_of l)) l

abbrev pub InCodeIs : List ℕ → List ℕ → Lexer → Taken → Type 0
InCodeIs s table l r = r ≡ in_code (properties_at table) (next_char (chars_from s (reach_of l))) (chars_from s (reach_of l)) l

-- what is taken by what a character begins
abbrev pub taken_by : (ℕ → ℕ) → Begins → List ℕ → Lexer → Taken
taken_by look begins.Number cs l = consume_number cs l
taken_by look begins.Name cs l = consume_id_or_keyword look cs l
taken_by look begins.Symbol cs l = consume_symbol cs l

-- a number begins with a digit
abbrev pub DigitAt : List ℕ → ℕ → Begins → Type 0
DigitAt s i begins.Number = (48 ≤ byte_at s i) × (byte_at s i ≤ 57)
DigitAt s i begins.Name = Unit {0}
DigitAt s i begins.Symbol = Unit {0}

-- the character at the lexer's place begins what the arm takes
pub record BeginsIs (s table : List ℕ) (l : Lexer) (r : Begins) : Type 0 where
  pub arm : InCodeIs s table l (taken_by (properties_at table) r (chars_from s (reach_of l)) l)
  pub digit : DigitAt s (reach_of l).byte.0 r

-- a character that is none of those which are tested one by one before digits: whitespace, the ends of lines, "#" and the quotes
pub record Other (c : ℕ) : Type 0 where
  pub blank : is_whitespace c ≡ false
  pub line : is_line_end c ≡ false
  pub hash : eqb c 35 ≡ false
  pub double : eqb c 34 ≡ false
  pub single : eqb c 39 ≡ false
