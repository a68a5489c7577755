-- What is found of a read step: the token that it takes from the settled lexer, if it takes one.
-- Assumes nothing.
use Rattle.std.specs.Prelude.{ℕ, ◌≡◌, false, List, eqb}
use Rattle.property.specs.Table.{properties_at}
use Rattle.token.specs.Kind.{error}
use Rattle.state.specs.Lexer.{settled}
use Rattle.state.specs.declared.Lexer.{Lexer}
use Rattle.lexer.specs.Step.{half_of, half}
use Rattle.found.specs.Found.{found_taken}
use Rattle.found.specs.declared.Found.{Found}

-- whatever the edition; a kind that is Error says nothing
pub record StepFinds (s table : List ℕ) (l : Lexer) (f : Found) : Type 0 where
  pub is : eqb f.kind error ≡ false → (edition : ℕ) → half (properties_at table) edition s l ≡ half_of l (found_taken f (settled l))
