-- lexer.rs `get_next_token`, the match outside strings: what is found of the token at the lexer's place.
-- Assumes nothing.
use Rattle.std.specs.Prelude.{ℕ, List}
use Rattle.property.specs.Table.{properties_at}
use Rattle.fitness.specs.Fit.{FitTable}
use Rattle.text.specs.Stands.{chars_from}
use Rattle.state.specs.Lexer.{reach_of}
use Rattle.state.specs.declared.Change.TheVariants.{Keep}
use Rattle.state.specs.declared.Lexer.{Lexer}
use Rattle.lexer.specs.GetNextToken.{next_char, in_code}
use Rattle.plain.specs.Plain.{FindsPlain}
use Rattle.plain.specs.declared.Plain.{Plain}

-- whatever the table, which says nothing of ASCII characters that is not fixed
abbrev pub CodeFinds : List ℕ → Lexer → Plain → Type 0
CodeFinds s l p =
    (table : List ℕ) → FitTable table
    → FindsPlain Keep (in_code (properties_at table) (next_char (chars_from s (reach_of l))) (chars_from s (reach_of l)) l) l p
