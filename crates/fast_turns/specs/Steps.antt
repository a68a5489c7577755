-- What the steps of the second engine's loop know of a lexer, and what those outside a string keep.
-- Assumes nothing.
use Rattle.std.specs.Prelude.{ℕ, ◌<◌, ◌≡◌, Bool, true, List, length, get_or}
use Rattle.fitness.specs.Fit.{FitTable}
use Rattle.layout.specs.Layout.{room_in}
use Rattle.layout.specs.declared.Layout.{Layout}
use Rattle.state.specs.Modes.{literal, template_expr_format, raw_start, raw_end, tag_of}
use Rattle.state.specs.Lexer.{reach_of}
use Rattle.state.specs.State.{state_of}
use Rattle.state.specs.declared.Lexer.{Lexer}
use Rattle.stepping.specs.Invariant.{Ok}
use Rattle.classes.specs.Classes.{ClassTable}
use Rattle.signs.specs.Table.{SignTable}
use Rattle.turns.specs.Turns.{Ran, TurnsIs}
use Rattle.turns.specs.declared.Run.{Run}
use Rattle.turns.specs.declared.Turns.{Turns}

-- a step may be taken: the state is in order, and the table fit
pub record Steady (s table : List ℕ) (l : Lexer) (codes : List ℕ) : Type 0 where
  pub ok : Ok s (state_of l codes)
  pub fit : FitTable table

-- the rows of constants that the leaves go by
pub record Rows (classes signs : List ℕ) : Type 0 where
  pub by_class : ClassTable classes
  pub by_sign : SignTable signs

-- the mode on top is none of a string's
pub record CodeMode (mode : ℕ) : Type 0 where
  pub no_literal : tag_of mode ≡ literal → ⊥
  pub no_format : tag_of mode ≡ template_expr_format → ⊥
  pub no_start : tag_of mode ≡ raw_start → ⊥
  pub no_end : tag_of mode ≡ raw_end → ⊥

-- an ASCII byte stands at the lexer's place, and there is room for its token's record
pub record Inside (layout : Layout) (s list : List ℕ) (k : ℕ) (l : Lexer) : Type 0 where
  pub within : (reach_of l).byte.0 < length s
  pub ascii : get_or s (reach_of l).byte.0 0 < 128
  pub room : k < room_in layout list

pub record InsideIf (layout : Layout) (s list : List ℕ) (k : ℕ) (l : Lexer) (yes : Bool) : Type 0 where
  pub is : yes ≡ true → Inside layout s list k l

-- the modes are kept
pub record CodeTurns (layout : Layout) (s table : List ℕ) (edition : ℕ) (l : Lexer) (codes : List ℕ) (k : ℕ) (list : List ℕ) (r : Turns) (new : List ℕ) : Type 0 where
  pub turns : TurnsIs layout s table edition l codes k list r codes new
  pub mode : r.lexer.mode ≡ l.mode

pub record CodeRan (layout : Layout) (s table : List ℕ) (edition : ℕ) (l : Lexer) (codes : List ℕ) (k : ℕ) (list : List ℕ) (r : Run) (new : List ℕ) : Type 0 where
  pub ran : Ran layout s table edition (state_of l codes) k list (state_of r.lexer codes) r.count new
  pub mode : r.lexer.mode ≡ l.mode
