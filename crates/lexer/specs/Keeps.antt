-- What every token keeps of the lexer that it was read from: the copies of depth and top, which only a change of the modes moves; and how
-- it joins what was read before. Its kind and detail may be shown, and an Error changes no mode.
-- Assumes nothing.
use Rattle.std.specs.Prelude.{◌≡◌, true, ◌⊎◌}
use Rattle.token.specs.Kind.{error}
use Rattle.token.specs.Detail.{fits}
use Rattle.state.specs.declared.Change.TheVariants.{Keep}
use Rattle.state.specs.declared.Lexer.{Lexer}
use Rattle.state.specs.declared.Taken.{Taken}

-- the bytes and the span of the token begin where those before ended
pub record Joins (before after : Lexer) : Type 0 where
  pub bytes : after.place.previous_byte ≡ before.place.current_byte
  pub span : after.place.span.start ≡ before.place.span.end

-- the token joins what was read before it, or it is an Error that stands still
pub record Keeps (l : Lexer) (t : Taken) : Type 0 where
  pub depth : t.lexer.depth ≡ l.depth
  pub mode : t.lexer.mode ≡ l.mode
  pub place : Joins l t.lexer ⊎ ((t.lexer.place ≡ l.place) × (t.token.kind ≡ error))
  pub fits_record : fits t.token.kind t.token.detail ≡ true
  pub error_keeps : t.token.kind ≡ error → t.change ≡ Keep
