-- A token of so many ASCII bytes on one line, and the token that lexer.rs's `get_next_token` takes by it: the lexer after it is advanced along the line.
-- Assumes nothing.
use Rattle.std.specs.Prelude.{ℕ, ◌≡◌, false, eqb}
use Rattle.token.specs.Kind.{error}
use Rattle.token.specs.Token.{token_of}
use Rattle.state.specs.Lexer.{advanced_line}
use Rattle.state.specs.declared.Change.{Change}
use Rattle.state.specs.declared.Lexer.{Lexer}
use Rattle.state.specs.declared.Taken.{Taken}
use Rattle.plain.specs.declared.Plain.{Plain}

-- the token that is taken from the lexer l, where the modes change so
abbrev pub plain_taken : Change → ℕ → ℕ → Lexer → Taken
plain_taken change kind len l = record { token = token_of kind; lexer = advanced_line len l; change = change }

-- what a leaf ensures: t is the token that is found, if one is
pub record FindsPlain (change : Change) (t : Taken) (l : Lexer) (p : Plain) : Type 0 where
  pub is : eqb p.kind error ≡ false → t ≡ plain_taken change p.kind p.len l
