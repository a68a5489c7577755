-- The state's two halves together: lexer.rs `string_mode_stack.push(..)` and `.pop()` on the array with its depth, and the copies of depth
-- and top beside it. That these are the stack's is in `StackLaws`.
-- Assumes nothing.
use Rattle.std.specs.Prelude.{ℕ, ◌+◌, ◌-◌, ◌≤◌, ◌<◌, List, ltb, eqb, get_or, set, replicate}
use Rattle.base.specs.Pick.{pick}
use Rattle.state.specs.Lexer.{start_lexer}
use Rattle.state.specs.declared.Change.{Change}
use Rattle.state.specs.declared.Change.TheVariants.{Keep, Push, Pop, Replace}
use Rattle.state.specs.declared.Lexer.{Lexer}
use Rattle.state.specs.declared.State.{State}

-- nothing is read, and there is no mode
abbrev pub start_state : State
start_state = record { lexer = start_lexer; modes = record { codes = replicate 64 0; depth = 0 } }

-- a lexer and the codes beside it, whose depth is the lexer's copy
abbrev pub state_of : Lexer → List ℕ → State
state_of l codes = record { lexer = l; modes = record { codes = codes; depth = l.depth } }

-- the lexer with these copies of depth and top
abbrev pub with_mode : ℕ → ℕ → Lexer → Lexer
with_mode depth mode l = record { place = l.place; indent = l.indent; previous_token = l.previous_token; depth = depth; mode = mode }

-- a state of a lexer, codes and a depth, with the code on top
abbrev stacked : Lexer → List ℕ → ℕ → ℕ → State
stacked l codes depth mode = record { lexer = with_mode depth mode l; modes = record { codes = codes; depth = depth } }

-- `push`
abbrev pub pushed : ℕ → State → State
pushed code s = stacked s.lexer (set s.modes.codes s.modes.depth code) (s.modes.depth + 1) code

-- `pop`: the code below is on top then, or none
abbrev pub popped : State → State
popped s =
    pick (ltb s.modes.depth 2) (stacked s.lexer s.modes.codes 0 0)
    (stacked s.lexer s.modes.codes (s.modes.depth - 1) (get_or s.modes.codes (s.modes.depth - 2) 0))

-- `pop` and `push`
abbrev pub replaced : ℕ → State → State
replaced code s =
    pick (eqb s.modes.depth 0) (pushed code s)
    (stacked s.lexer (set s.modes.codes (s.modes.depth - 1) code) s.modes.depth code)

-- as a token asked for
abbrev pub changed_by : Change → State → State
changed_by Keep s = s
changed_by (Push code) s = pushed code s
changed_by Pop s = popped s
changed_by (Replace code) s = replaced code s

-- there is room for the change
abbrev pub Fits : Change → State → Type 0
Fits Keep s = s.modes.depth ≤ 64
Fits (Push code) s = s.modes.depth < 64
Fits Pop s = s.modes.depth ≤ 64
Fits (Replace code) s = s.modes.depth ≤ 64
