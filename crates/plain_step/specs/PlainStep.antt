-- lexer.rs `get_next_token`, the match outside strings: what is found of the token at the lexer's place, by its parts.
-- Assumes nothing.
use Rattle.std.specs.Prelude.{ℕ, ◌≡◌, List}
use Rattle.fitness.specs.Fit.{FitTable}
use Rattle.state.specs.Modes.{literal, template_expr_format, raw_start, raw_end, tag_of}
use Rattle.state.specs.declared.Lexer.{Lexer}
use Rattle.found.specs.declared.Found.{Found}
use Rattle.short.specs.Short.{CodeFinds}

-- the mode on top is none of a string's
pub record CodeMode (mode : ℕ) : Type 0 where
  pub no_literal : tag_of mode ≡ literal → ⊥
  pub no_format : tag_of mode ≡ template_expr_format → ⊥
  pub no_start : tag_of mode ≡ raw_start → ⊥
  pub no_end : tag_of mode ≡ raw_end → ⊥

-- whatever the table, which says nothing of ASCII characters that is not fixed
abbrev pub FoundInCode : List ℕ → Lexer → Found → Type 0
FoundInCode s l f = (table : List ℕ) → FitTable table → CodeFinds s table l f
