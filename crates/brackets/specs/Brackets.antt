-- lexer.rs `get_next_token` outside a string: the tokens of one byte that change the modes.
-- Assumes nothing.
use Rattle.std.specs.Prelude.{ℕ, ◌≡◌, Bool, true, false, List, eqb}
use Rattle.property.specs.Table.{properties_at}
use Rattle.token.specs.Kind.{error, curly_close}
use Rattle.token.specs.Token.{token_of}
use Rattle.text.specs.Stands.{chars_from}
use Rattle.state.specs.Lexer.{reach_of}
use Rattle.state.specs.declared.Change.TheVariants.{Push, Pop}
use Rattle.state.specs.declared.Lexer.{Lexer}
use Rattle.state.specs.declared.Taken.{Taken}
use Rattle.lexer.specs.GetNextToken.{next_char, one_byte, in_code}
use Rattle.brackets.specs.declared.Opening.{Opening}

-- what is taken outside a string
abbrev pub code_taken : List ℕ → List ℕ → Lexer → Taken
code_taken s table l = in_code (properties_at table) (next_char (chars_from s (reach_of l))) (chars_from s (reach_of l)) l

-- the token that pushes a mode; the kind Error says that there is none
pub record OpensIs (s table : List ℕ) (l : Lexer) (o : Opening) : Type 0 where
  pub is : eqb o.token.kind error ≡ false → code_taken s table l ≡ one_byte o.token (Push o.code) l

-- it is a brace that pops one
pub record ClosesIs (s table : List ℕ) (l : Lexer) (yes : Bool) : Type 0 where
  pub is : yes ≡ true → code_taken s table l ≡ one_byte (token_of curly_close) Pop l
