-- What is left to pay for records with. A byte that is left brings 4, a record costs 3, a mode on the stack may have something in store for
-- a record of no bytes, and a template whose closing brace comes next owes 2. At the start there are 4 for each byte (`start_potential`),
-- and every record is paid for (`step_pays`, `stop_pays`): so a source of n bytes never has more than n + n/3 records.
-- Assumes nothing.
use Rattle.std.specs.Prelude.{ℕ, ◌+◌, ◌*◌, ◌-◌, ◌≤◌, ◌≡◌, Bool, ◌&&◌, List, [], ◌∷◌, eqb, length}
use Rattle.base.specs.Pick.{pick}
use Rattle.text.specs.Bytes.{byte_at}
use Rattle.text.specs.Tests.{curly_close}
use Rattle.state.specs.Modes.{template_expr, template_expr_format, raw_start, mode_code, tag_of}
use Rattle.state.specs.Lexer.{reach_of}
use Rattle.state.specs.Stack.{top, changed, stack_of}
use Rattle.state.specs.declared.Change.{Change}
use Rattle.state.specs.declared.State.{State}

-- what a mode has in store, by its tag: RawStart for contents that may be empty, the two of a template for format options that may be empty
abbrev pub stored : ℕ → ℕ
stored tag = pick (eqb tag raw_start) 3 (pick (eqb tag template_expr) 1 (pick (eqb tag template_expr_format) 1 0))

-- the same by its code
unfoldable pub owns : ℕ → ℕ
owns code = stored (tag_of code)

-- what a stack of modes has in store
unfoldable pub own_all : List ℕ → ℕ
own_all [] = 0
own_all (m ∷ ms) = owns m + own_all ms

-- a template is on top, and its closing brace is the byte at i
unfoldable pub closes : List ℕ → ℕ → ℕ → Bool
closes s i mode = eqb mode (mode_code template_expr 0) && eqb (byte_at s i) curly_close

-- what a template whose closing brace comes next owes
abbrev pub owes : List ℕ → ℕ → ℕ → ℕ
owes s i mode = pick (closes s i mode) 2 0

-- what is left to pay with where reading has come to the byte i, with this stack of modes
abbrev pub worth : List ℕ → ℕ → List ℕ → ℕ
worth s i ms = 4 * (length s - i) - owes s i (top ms) + own_all ms

-- the same of a state
abbrev pub potential : List ℕ → State → ℕ
potential s st = worth s (reach_of st.lexer).byte.0 (stack_of st.modes)

-- a record is paid for where reading goes on from the byte i to the byte j, with this change of the modes
abbrev pub Pays : List ℕ → ℕ → ℕ → List ℕ → Change → Type 0
Pays s i j ms c = worth s j (changed c ms) + 3 ≤ worth s i ms

-- directly below every format mode of a stack stands a template
unfoldable pub NestedIn : List ℕ → Type 0
NestedIn [] = Unit {0}
NestedIn (m ∷ ms) = (tag_of m ≡ template_expr_format → top ms ≡ mode_code template_expr 0) × NestedIn ms

-- the same of a state
abbrev pub Nested : State → Type 0
Nested st = NestedIn (stack_of st.modes)
