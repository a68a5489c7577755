-- lexer.rs `consume_id_or_keyword`: what is found of the name at the lexer's place.
-- Assumes nothing.
use Rattle.std.specs.Prelude.{ℕ, List}
use Rattle.property.specs.Table.{properties_at}
use Rattle.fitness.specs.Fit.{FitTable}
use Rattle.text.specs.Stands.{chars_from}
use Rattle.state.specs.Lexer.{reach_of}
use Rattle.state.specs.declared.Change.TheVariants.{Keep}
use Rattle.state.specs.declared.Lexer.{Lexer}
use Rattle.names.specs.ConsumeIdOrKeyword.{consume_id_or_keyword}
use Rattle.plain.specs.Plain.{FindsPlain}
use Rattle.plain.specs.declared.Plain.{Plain}

-- whatever the table, which says nothing of ASCII characters that is not fixed
abbrev pub NameFinds : List ℕ → Lexer → Plain → Type 0
NameFinds s l p =
    (table : List ℕ) → FitTable table → FindsPlain Keep (consume_id_or_keyword (properties_at table) (chars_from s (reach_of l)) l) l p
