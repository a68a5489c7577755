-- A token by its parts, and the token that lexer.rs's `get_next_token` takes by them: the lexer after it stands at its end.
-- Assumes nothing.
use Rattle.std.specs.Prelude.{ℕ, ◌+◌, ◌≡◌, false, eqb}
use Rattle.position.specs.declared.Reach.{Reach}
use Rattle.token.specs.Kind.{error}
use Rattle.state.specs.Lexer.{reach_of, with_indent, advanced_to}
use Rattle.state.specs.declared.Change.{Change}
use Rattle.state.specs.declared.Change.TheVariants.{Keep}
use Rattle.state.specs.declared.Lexer.{Lexer}
use Rattle.state.specs.declared.Taken.{Taken}
use Rattle.found.specs.declared.Found.{Found}

-- where the token ends
abbrev pub end_of : Found → Reach
end_of f =
    record { byte = record { 0 = f.end }; position = record { line = f.line; column = record { 0 = f.column } } }

-- the token that is taken from the lexer l
abbrev pub found_taken : Found → Lexer → Taken
found_taken f l =
    record { token = record { kind = f.kind; detail = f.detail }; lexer = advanced_to (end_of f) (with_indent f.indent l); change = f.change }

-- what an arm ensures: t is the token that is found, if one is
pub record Finds (t : Taken) (l : Lexer) (f : Found) : Type 0 where
  pub is : eqb f.kind error ≡ false → t ≡ found_taken f l

-- of so many ASCII bytes on this line
abbrev pub found_along : ℕ → ℕ → ℕ → Change → Lexer → Found
found_along kind detail len change l =
    record {
      kind = kind;
      detail = detail;
      end = (reach_of l).byte.0 + len;
      line = (reach_of l).position.line;
      column = (reach_of l).position.column.0 + len;
      indent = l.indent;
      change = change;
    }

-- to where it reaches
abbrev pub found_to : ℕ → Reach → Lexer → Found
found_to kind end l =
    record {
      kind = kind;
      detail = 0;
      end = end.byte.0;
      line = end.position.line;
      column = end.position.column.0;
      indent = l.indent;
      change = Keep;
    }

-- as a `consume_*` took it
abbrev pub found_of : Taken → Found
found_of t =
    record {
      kind = t.token.kind;
      detail = t.token.detail;
      end = (reach_of t.lexer).byte.0;
      line = (reach_of t.lexer).position.line;
      column = (reach_of t.lexer).position.column.0;
      indent = t.lexer.indent;
      change = t.change;
    }
