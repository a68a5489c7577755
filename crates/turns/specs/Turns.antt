-- A turn of a loop that reads on, where the token that the read step takes is known: its record is written, and its modes are changed. And as many
-- turns as such a loop makes. What completes the list after them completes it from before them (`Going` in the crate `reading`).
-- Assumes nothing.
use Rattle.std.specs.Prelude.{ℕ, ◌+◌, ◌≤◌, ◌<◌, ◌≡◌, true, false, List, eqb, length}
use Rattle.base.specs.Refusal.{source_most}
use Rattle.position.specs.Position.{column_most}
use Rattle.property.specs.Table.{properties_at}
use Rattle.fitness.specs.Fit.{FitTable}
use Rattle.token.specs.Kind.{error}
use Rattle.token.specs.declared.Token.{Token}
use Rattle.rows.specs.First.{Packs, depth_most}
use Rattle.half_rows.specs.Half.{marked}
use Rattle.layout.specs.Layout.{room_in, put_in}
use Rattle.layout.specs.declared.Layout.{Layout}
use Rattle.state.specs.Lexer.{advanced_line, reach_of, remembered}
use Rattle.state.specs.State.{state_of}
use Rattle.state.specs.declared.Change.{Change}
use Rattle.state.specs.declared.Lexer.{Lexer}
use Rattle.state.specs.declared.State.{State}
use Rattle.state.specs.declared.Taken.{Taken}
use Rattle.lexer.specs.Step.{is_full, half_of, half}
use Rattle.stepping.specs.Invariant.{Ok, measure}
use Rattle.reading.specs.Reading.{row_of}
use Rattle.reading.specs.GoingLaws.{Going}
use Rattle.turns.specs.declared.Turns.{Turns}

-- ---- the token

-- the read step takes the token t from the lexer l: it is no Error, and where it pushes a mode there is room for it
pub record Takes (s table : List ℕ) (edition : ℕ) (l : Lexer) (t : Taken) : Type 0 where
  pub is : half (properties_at table) edition s l ≡ half_of l t
  pub fits : is_full t.change l.depth ≡ false
  pub real : eqb t.token.kind error ≡ false

-- the lexer after it
abbrev pub after_of : Taken → Lexer
after_of t = remembered t.token.kind t.lexer

-- everything is at hand for a turn with the token t, but room for its mode
pub record Ready (layout : Layout) (s table : List ℕ) (edition : ℕ) (l : Lexer) (codes : List ℕ) (k : ℕ) (list : List ℕ) (t : Taken) : Type 0 where
  pub ok : Ok s (state_of l codes)
  pub fit : FitTable table
  pub room : k < room_in layout list
  pub is : half (properties_at table) edition s l ≡ half_of l t
  pub real : eqb t.token.kind error ≡ false

-- a token of so many ASCII bytes on this line
abbrev pub line_taken : Token → ℕ → Change → Lexer → Taken
line_taken token len change l = record { token = token; lexer = advanced_line len l; change = change }

-- ---- its record

-- a record of this token may be written: there is room, and its numbers have as many bits as a record has for them
pub record Writable (layout : Layout) (list : List ℕ) (k : ℕ) (token : Token) (before after : Lexer) : Type 0 where
  pub room : k < room_in layout list
  pub start : after.place.previous_byte.0 ≤ source_most
  pub end : after.place.current_byte.0 ≤ source_most
  pub line : (reach_of before).position.line ≤ source_most
  pub column : (reach_of before).position.column.0 ≤ column_most
  pub depth : before.depth ≤ depth_most
  pub packs : Packs (row_of token before after)

-- it was written, and the lexer x is the one after the token
pub record Written (layout : Layout) (list : List ℕ) (k : ℕ) (token : Token) (before after x : Lexer) (new : List ℕ) : Type 0 where
  pub after_it : x ≡ after
  pub record_put : new ≡ put_in layout list k (marked (row_of token before after) false)

-- ---- the loop

-- one turn, from a state, k records and a list
pub record Turned (layout : Layout) (s table : List ℕ) (edition : ℕ) (st : State) (k : ℕ) (list : List ℕ) (x : State) (new : List ℕ) : Type 0 where
  pub ok : Ok s x
  pub long : length new ≡ length list
  pub goes : (st₀ : State) (k₀ : ℕ) (l₀ : List ℕ) → Going layout s table edition st₀ k₀ l₀ st k list → Going layout s table edition st₀ k₀ l₀ x (k + 1) new
  pub falls : measure s x < measure s st

-- so many turns, to j records
pub record Ran (layout : Layout) (s table : List ℕ) (edition : ℕ) (st : State) (k : ℕ) (list : List ℕ) (x : State) (j : ℕ) (new : List ℕ) : Type 0 where
  pub ok : Ok s x
  pub long : length new ≡ length list
  pub goes : (st₀ : State) (k₀ : ℕ) (l₀ : List ℕ) → Going layout s table edition st₀ k₀ l₀ st k list → Going layout s table edition st₀ k₀ l₀ x j new
  pub less : measure s x ≤ measure s st

-- what a step of the loop answers: the turns that it made; it goes on where it made one
pub record TurnsIs (layout : Layout) (s table : List ℕ) (edition : ℕ) (l : Lexer) (codes : List ℕ) (k : ℕ) (list : List ℕ) (r : Turns) (codes' new : List ℕ)
    : Type 0 where
  pub ran : Ran layout s table edition (state_of l codes) k list (state_of r.lexer codes') r.count new
  pub falls : r.on ≡ true → measure s (state_of r.lexer codes') < measure s (state_of l codes)
