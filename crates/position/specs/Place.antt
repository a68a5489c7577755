-- lexer.rs `TokenLexer`: how far reading has come, where the lexer stands (`previous_byte`, `current_byte`, `span`), and its advance
-- steps, which begin where the token before ended.
-- Assumes nothing.
use Rattle.std.specs.Prelude.{ℕ, ◌+◌}
use Rattle.position.specs.Position.{advanced, next_line, line_start}
use Rattle.position.specs.declared.Reach.{Reach}
use Rattle.position.specs.declared.Place.{Place}

-- past characters of so many bytes and so many columns
abbrev pub along_by : ℕ → ℕ → Reach → Reach
along_by bytes columns r = record { byte = record { 0 = r.byte.0 + bytes }; position = advanced columns r.position }

-- past so many bytes, the last of which end a line
abbrev pub line_by : ℕ → Reach → Reach
line_by bytes r = record { byte = record { 0 = r.byte.0 + bytes }; position = next_line r.position }

-- `new`: nothing is read
abbrev pub start_place : Place
start_place = record { previous_byte = record { 0 = 0 }; current_byte = record { 0 = 0 }; span = line_start 0 }

-- where the next token begins: `current_byte` and `current_position`
abbrev pub reach_of : Place → Reach
reach_of p = record { byte = p.current_byte; position = p.span.end }

-- `advance_to_position`
abbrev pub advanced_to_position : Reach → Place → Place
advanced_to_position end p =
    record {
      previous_byte = p.current_byte;
      current_byte = end.byte;
      span = record { start = p.span.end; end = end.position };
    }

-- `advance_line_utf8`
abbrev pub advanced_line_utf8 : ℕ → ℕ → Place → Place
advanced_line_utf8 bytes columns p = advanced_to_position (along_by bytes columns (reach_of p)) p

-- `advance_line`: ASCII, so the columns are the bytes
abbrev pub advanced_line : ℕ → Place → Place
advanced_line bytes p = advanced_line_utf8 bytes bytes p
