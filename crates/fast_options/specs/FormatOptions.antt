-- lexer.rs `consume_format_options`: what is found of the options that follow, at the lexer's place.
-- Assumes nothing.
use Rattle.std.specs.Prelude.{ℕ, Bool, ◌||◌, List, eqb}
use Rattle.base.specs.Pick.{pick}
use Rattle.property.specs.Table.{properties_at}
use Rattle.fitness.specs.Fit.{FitTable}
use Rattle.text.specs.Tests.{less, caret, greater}
use Rattle.text.specs.Stands.{chars_from}
use Rattle.state.specs.Lexer.{reach_of}
use Rattle.state.specs.declared.Change.TheVariants.{Pop}
use Rattle.state.specs.declared.Lexer.{Lexer}
use Rattle.options.specs.ConsumeFormatOptions.{consume_format_options}
use Rattle.found.specs.Found.{Finds}
use Rattle.found.specs.declared.Found.{Found}
use Rattle.plain.specs.Plain.{FindsPlain}
use Rattle.plain.specs.declared.Plain.{Plain}

-- "<", "^" or ">"
abbrev pub is_alignment : ℕ → Bool
is_alignment b = eqb b less || (eqb b caret || eqb b greater)

-- the bytes of the fill and the alignment, where the fill is one byte with b after it
abbrev pub skip_ascii : ℕ → ℕ
skip_ascii b = pick (is_alignment b) 2 0

-- by every fit table and whatever the edition
abbrev pub FindsOptions : List ℕ → Lexer → Plain → Type 0
FindsOptions s l p =
    (table : List ℕ) → FitTable table → (edition : ℕ)
    → FindsPlain Pop (consume_format_options (properties_at table) edition (chars_from s (reach_of l)) l) l p

-- the same, by its parts
abbrev pub FoundOptions : List ℕ → Lexer → Found → Type 0
FoundOptions s l f =
    (table : List ℕ) → FitTable table → (edition : ℕ) → Finds (consume_format_options (properties_at table) edition (chars_from s (reach_of l)) l) l f
