-- What `raw_start` decides for `name_token`: whether the name opens a raw string. No public contract cites it.
-- Assumes nothing.
use Rattle.std.specs.Prelude.{ℕ, ◌-◌, ◌<◌, ◌≡◌, List, take, drop, Option, Some, None}
use Rattle.base.specs.Pick.{pick}
use Rattle.position.specs.declared.Reach.{Reach}
use Rattle.words.specs.Words.{is_word, r_word}
use Rattle.text.specs.Stands.{chars_from}
use Rattle.state.specs.Lexer.{reach_of}
use Rattle.state.specs.declared.Lexer.{Lexer}
use Rattle.names.specs.ConsumeIdOrKeyword.{keyword_or_id, or_else, raw_or_name}

-- a delimiter that fits its place in a mode's code
abbrev pub Small : Option ℕ → Type 0
Small (Some delimiter) = delimiter < 512
Small None = Unit {0}

-- the name that begins at the lexer's place and reaches to `end` is a raw string's start, or a name like any other
pub record RawDecides (s : List ℕ) (l : Lexer) (end : Reach) (r : Option ℕ) : Type 0 where
  pub decides :
      pick (is_word r_word (take (end.byte.0 - (reach_of l).byte.0) (drop (reach_of l).byte.0 s)))
      (raw_or_name (chars_from s (reach_of l)) end l)
      (keyword_or_id (chars_from s (reach_of l)) end l)
      ≡ or_else r l (keyword_or_id (chars_from s (reach_of l)) end l)
  pub small : Small r
