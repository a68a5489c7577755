-- lexer.rs `get_next_token`, what becomes of `string_mode_stack`, read from the change: which tokens push a mode, pop one or replace it, and
-- under which mode. Every other token leaves the stack.
-- Assumes nothing.
use Rattle.std.specs.Prelude.{ℕ, ◌≤◌, ◌≡◌}
use Rattle.token.specs.Kind.{string_start, string_end, string_literal, colon, curly_open, curly_close}
use Rattle.token.specs.declared.Token.{Token}
use Rattle.state.specs.Modes.{literal, template_expr, template_expr_inline_map, template_expr_format, raw_start, mode_code, tag_of}
use Rattle.state.specs.declared.Change.{Change}
use Rattle.state.specs.declared.Change.TheVariants.{Keep, Push, Pop, Replace}

-- the mode of a template's expression, of a map in it, and of its format options
abbrev pub template : ℕ
template = mode_code template_expr 0

abbrev pub inline_map : ℕ
inline_map = mode_code template_expr_inline_map 0

abbrev pub format : ℕ
format = mode_code template_expr_format 0

-- the token t pushes a mode, where `mode` is on top
pub data Opens (mode : ℕ) (t : Token) (code : ℕ) : Type 0 where
  -- a quote in code
  string : (tag_of mode ≡ literal → ⊥) → (tag_of mode ≡ template_expr_format → ⊥) → t.kind ≡ string_start → tag_of code ≡ literal → Opens mode t code
  -- "r", hashes and a quote
  raw : t.kind ≡ string_start → 2 ≤ t.detail → Opens mode t code
  -- "{" in a string's contents
  expression : tag_of mode ≡ literal → t.kind ≡ curly_open → code ≡ template → Opens mode t code
  -- "{" in a template's expression
  map : mode ≡ template → t.kind ≡ curly_open → code ≡ inline_map → Opens mode t code
  -- ":" there
  options : mode ≡ template → t.kind ≡ colon → code ≡ format → Opens mode t code

-- the token t pops a mode
pub data Closes (t : Token) : Type 0 where
  -- the end quote
  string : t.kind ≡ string_end → Closes t
  -- "}"
  brace : t.kind ≡ curly_close → Closes t
  -- the format options
  options : t.kind ≡ string_literal → Closes t

-- what the token t does to the modes, of which `mode` is on top
abbrev pub Moves : ℕ → Token → Change → Type 0
Moves mode t Keep = Unit {0}
Moves mode t (Push code) = Opens mode t code
Moves mode t Pop = Closes t
-- the contents of a raw string
Moves mode t (Replace code) = (tag_of mode ≡ raw_start) × (t.kind ≡ string_literal)
