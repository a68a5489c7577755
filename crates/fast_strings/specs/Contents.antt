-- lexer.rs `consume_string_literal`: what is found of the contents that follow, at the lexer's place.
-- Assumes nothing.
use Rattle.std.specs.Prelude.{ℕ, List}
use Rattle.property.specs.Table.{properties_at}
use Rattle.fitness.specs.Fit.{FitTable}
use Rattle.text.specs.Stands.{chars_from}
use Rattle.state.specs.Lexer.{reach_of}
use Rattle.state.specs.declared.Change.TheVariants.{Keep}
use Rattle.state.specs.declared.Lexer.{Lexer}
use Rattle.strings.specs.ConsumeStringLiteral.{consume_string_literal}
use Rattle.plain.specs.Plain.{FindsPlain}
use Rattle.plain.specs.declared.Plain.{Plain}

-- in a literal with this quote, by every fit table
abbrev pub FindsContents : List ℕ → ℕ → Lexer → Plain → Type 0
FindsContents s quote l p =
    (table : List ℕ) → FitTable table → FindsPlain Keep (consume_string_literal (properties_at table) quote (chars_from s (reach_of l)) l) l p
