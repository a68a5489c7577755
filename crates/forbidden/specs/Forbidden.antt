-- What the site profile forbids (document 02, C-14): "names and numbers as before, no raw strings, no template inside a template (its "{" is the
-- token)". It is told by the token and by the modes that stand on koto's own stack before it (lexer.rs `string_mode_stack`), which the crate
-- `rust` has as the Rust does.
-- Assumes nothing.
use Rattle.std.specs.Prelude.{ℕ, Bool, false, not, ◌&&◌, ◌||◌, List, [], ◌∷◌, leb, eqb, length, Option, Some, None}
use Rattle.base.specs.Pick.{pick}
use Rattle.property.specs.Table.{properties_at}
use Rattle.fitness.specs.First.{first_bad}
use Rattle.token.specs.Kind.{string_start, curly_open}
use Rattle.rows.specs.declared.Row.{Row}
use Rattle.state.specs.Modes.{literal, template_expr, tag_of}
use Rattle.state.specs.Stack.{top}
use Rattle.reading.specs.Scan.{reading_of}
use Rattle.rust.specs.TokenLexer.{new_token_lexer, state_at, handed}

-- ---- what is forbidden

-- the start of a raw string: the details 0 and 1 are those of normal ones
abbrev pub is_raw : ℕ → Bool
is_raw detail = leb 2 detail

-- a template is open: its mode is one of these
unfoldable pub has_template : List ℕ → Bool
has_template [] = false
has_template (m ∷ ms) = eqb (tag_of m) template_expr || has_template ms

-- a "{" opens a template inside a template: it is read while a normal string's contents are, and a template is open already. In map mode, and
-- in a template's own expression, it opens none
abbrev pub opens_inner : List ℕ → Bool
opens_inner modes = eqb (tag_of (top modes)) literal && has_template modes

-- the token of this record, with these modes before it, the top first
abbrev pub is_forbidden : List ℕ → Row → Bool
is_forbidden modes r = pick (eqb r.kind string_start) (is_raw r.detail) (pick (eqb r.kind curly_open) (opens_inner modes) false)

-- ---- the first of them

-- where there is no token, none is forbidden
abbrev pub forbidden_token : List ℕ → Option Row → Bool
forbidden_token modes None = false
forbidden_token modes (Some r) = is_forbidden modes r

module _ (source table : List ℕ) (edition : ℕ) where
  -- the modes on koto's stack once i tokens were handed out
  abbrev pub modes_before : ℕ → List ℕ
  modes_before i = (state_at (properties_at table) edition source i new_token_lexer).string_mode_stack

  -- the token that is handed out then
  abbrev pub token_at : ℕ → Option Row
  token_at i = handed (properties_at table) edition source i new_token_lexer

  abbrev pub is_allowed : ℕ → Bool
  is_allowed i = not (forbidden_token (modes_before i) (token_at i))

  -- the first record that is forbidden; the count of the records where none is
  unfoldable pub first_forbidden : ℕ
  first_forbidden = first_bad is_allowed 0 (length (reading_of source table edition).rows)
