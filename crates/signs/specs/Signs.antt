-- lexer.rs `check_symbol!` by a symbol's first byte and the one behind it: what the kinds that the code tells by a byte mean. The kind Error says
-- nothing.
-- Assumes nothing.
use Rattle.std.specs.Prelude.{ℕ, ◌≡◌, true, false, List, [], ◌∷◌, eqb, Some}
use Rattle.token.specs.Kind.{error}
use Rattle.words.specs.Words.{starts_with}
use Rattle.symbols.specs.Symbols.{symbol_of, symbol}
use Rattle.text.specs.Stands.{chars_from}
use Rattle.state.specs.Lexer.{reach_of}
use Rattle.state.specs.declared.Change.TheVariants.{Keep}
use Rattle.state.specs.declared.Lexer.{Lexer}
use Rattle.symbol_tokens.specs.ConsumeSymbol.{symbol_change, consume_symbol}
use Rattle.found.specs.Found.{Finds}
use Rattle.found.specs.declared.Found.{Found}

-- "=" as the second byte of a symbol
abbrev pub equals : ℕ
equals = 61

-- a kind that changes no template's modes
pub record Plain (kind : ℕ) : Type 0 where
  pub keeps : (mode : ℕ) → symbol_change mode kind ≡ Keep

-- the byte b is a symbol of this kind, whatever follows
pub record Single (b kind : ℕ) : Type 0 where
  pub plain : Plain kind
  pub is : eqb kind error ≡ false → (rest : List ℕ) → symbol_of (b ∷ rest) ≡ Some (symbol kind 1)

-- where no "=" follows
pub record Alone (b kind : ℕ) : Type 0 where
  pub plain : Plain kind
  pub is : eqb kind error ≡ false → (rest : List ℕ) → starts_with (equals ∷ []) rest ≡ false → symbol_of (b ∷ rest) ≡ Some (symbol kind 1)

-- with the "=" that follows
pub record WithEquals (b kind : ℕ) : Type 0 where
  pub plain : Plain kind
  pub is : eqb kind error ≡ false → (rest : List ℕ) → starts_with (equals ∷ []) rest ≡ true → symbol_of (b ∷ rest) ≡ Some (symbol kind 2)

-- the symbol at the lexer's place is found
abbrev pub SignIs : List ℕ → Lexer → Found → Type 0
SignIs s l f = Finds (consume_symbol (chars_from s (reach_of l)) l) l f
