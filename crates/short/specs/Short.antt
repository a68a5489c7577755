-- lexer.rs `get_next_token`: what is found of the token that follows, at the lexer's place.
-- Assumes nothing.
use Rattle.std.specs.Prelude.{ℕ, List}
use Rattle.property.specs.Table.{properties_at}
use Rattle.text.specs.Stands.{chars_from}
use Rattle.state.specs.Lexer.{reach_of}
use Rattle.state.specs.declared.Lexer.{Lexer}
use Rattle.lexer.specs.GetNextToken.{next_char, in_literal, in_code, take_token}
use Rattle.found.specs.Found.{Finds}
use Rattle.found.specs.declared.Found.{Found}

-- outside a string
abbrev pub CodeFinds : List ℕ → List ℕ → Lexer → Found → Type 0
CodeFinds s table l f = Finds (in_code (properties_at table) (next_char (chars_from s (reach_of l))) (chars_from s (reach_of l)) l) l f

-- in a literal with this quote
abbrev pub LiteralFinds : List ℕ → List ℕ → ℕ → Lexer → Found → Type 0
LiteralFinds s table quote l f =
    Finds (in_literal (properties_at table) quote (next_char (chars_from s (reach_of l))) (chars_from s (reach_of l)) l) l f

-- by the mode on top, whatever the edition
abbrev pub TokenFinds : List ℕ → List ℕ → Lexer → Found → Type 0
TokenFinds s table l f = (edition : ℕ) → Finds (take_token (properties_at table) edition (chars_from s (reach_of l)) l) l f
